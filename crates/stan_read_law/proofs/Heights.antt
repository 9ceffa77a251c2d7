-- How deep productions nest, with those in the bodies of closures: no deeper than the levels that they open allow.
use Rattle.std.proofs.Common.{◌≡◌, ℕ, ◌+◌, ◌*◌, ◌≤◌, Bool, true, List, [], ◌∷◌, refl, sym, subst, arith}
use Rattle.std.specs.Prelude.{max, nat_le}
use Rattle.std.proofs.lemmas.Bool.{leb-true}
use Rattle.stan_model_grammar.specs.declared.token.Token.{Token}
use Rattle.stan_model_grammar.specs.Sites.{HeldBody}
use Rattle.stan_model_statements.specs.Grammar.{Spells}
use Rattle.stan_model_statements.specs.Rules.{symbols, sort_of}
use Rattle.stan_model_statements.specs.Symbols.{Symbol, Mark, Word, Checked, Expression, Part, rest}
use Rattle.stan_model_statements.specs.Takes as plain
use Rattle.stan_model_files.specs.Shapes.{Shape, nil, mark, word, expr, none, some, Bodies, no_body, body, forest, inside, depth, bodies_depth, HoldBodies, Holds}
use Rattle.stan_stmt_law.proofs.Heights.{rank, within_rank, rank_inside, ranks, weights, rank_rest}
use Rattle.stan_stmt_law.proofs.Words.{and_split}

abbrev mutual
  pub height : Shape → ℕ
  height nil = 0
  height (mark f) = height f
  height (word t f) = height f
  height (expr e bs f) = max (bodies_height bs) (height f)
  height (none f) = height f
  height (some r t ps f) = max (1 + height ps) (height f)

  -- a body takes a level of room itself
  pub bodies_height : Bodies → ℕ
  bodies_height no_body = 0
  bodies_height (body held f bs) = max (1 + height f) (bodies_height bs)

-- without the bodies of closures it is no deeper
pub forest_depth : (f : Shape) → plain.depth (forest f) ≤ depth f
forest_depth nil = omega arith
forest_depth (mark f) = forest_depth f
forest_depth (word t f) = forest_depth f
forest_depth (expr e bs f) = omega (arith, forest_depth f)
forest_depth (none f) = forest_depth f
forest_depth (some r t ps f) = omega (arith, forest_depth ps, forest_depth f)

module _ (ts : List Token) (named : Token → Bool) where
  mutual
    pub nests : (f : Shape) (m : ℕ) (xs : List Symbol) (at to place : ℕ) → within_rank m xs ≡ true → Spells ts named xs (forest f) at to → Holds ts named f place → height f ≤ 7 * depth f + m + 1
    nests nil m [] at to place w h held = omega arith
    nests nil m (Mark kind ∷ xs) at to place w h held = absurd h
    nests (mark f) m (Mark kind ∷ xs) at to place w h held = nests f m xs (at + 1) to (place + 1) w h.1 held
    nests (word t f) m (Word ks ∷ xs) at to place w h held = nests f m xs (at + 1) to (place + 1) w h.2 held
    nests (word t f) m (Checked c ∷ xs) at to place w h held = nests f m xs (at + 1) to (place + 1) w h.3 held
    nests (expr e bs f) m (Expression p ∷ xs) at to place w h held = omega (arith, bodies_nest bs _ held.0, nests f m xs h.0 to _ w h.2 held.1)
    nests (none f) m (Part n s ∷ xs) at to place w h held = nests f m xs at to place (and_split (nat_le (rank s) m) (within_rank m xs) w).1 h.2 held
    nests (some r t ps f) m (Part n s ∷ xs) at to place w h held =
        let low : rank (sort_of r) ≤ m = subst (λ z. rank z ≤ m) (sym h.1) (leb-true (rank s) m (and_split (nat_le (rank s) m) (within_rank m xs) w).0) in
        let inner = nests ps (rank_inside r) (symbols r) at h.0 place (ranks r) h.3 held.1 in
        let behind = nests f m (rest n s xs) h.0 to _ (rank_rest m n s xs w) h.4 held.2 in
        omega (arith, low, inner, behind, (weights r).0, (weights r).1)
    nests f m xs at to place w h held = absurd h

    pub bodies_nest : (bs : Bodies) (hs : List HeldBody) → HoldBodies ts named bs hs → bodies_height bs ≤ 7 * bodies_depth bs
    bodies_nest no_body hs h = omega arith
    bodies_nest (body held f bs) (x ∷ hs) h = omega (arith, nests f 4 inside x.first (x.last + 1) x.first refl h.1.0 h.2, bodies_nest bs hs h.3)
    bodies_nest (body held f bs) [] h = absurd h
