-- What is read holds the tree by productions that the parser on places of `stan_stmt_rules` reads.
use Rattle.std.proofs.Common.{◌≡◌, ℕ, zero, suc, ◌+◌, Bool, true, false, List, [], ◌∷◌, ◌++◌, length, Option, Some, None, refl, sym, ap, ◌∙◌, ◌⊎◌, inl, inr, map}
use Rattle.std.specs.Prelude.{nat_le, if◌then◌else◌, option_map}
use Rattle.std.proofs.lemmas.List.{map_push}
use Rattle.stan_model_grammar.specs.declared.token.Token.{Token}
use Rattle.stan_model_grammar.specs.declared.token.TokenKind.{TokenKind}
use Rattle.stan_model_grammar.specs.Trees.{Tree}
use Rattle.stan_expr_rules.specs.Parse.{Read, ◌>>=◌}
use Rattle.stan_model_statements.specs.Symbols.{Sort, One, May, Many, Again, Symbol, Mark, Word, Checked, Expression, Part}
use Rattle.stan_model_statements.specs.Rules.{Rule, symbols, weight}
use Rattle.stan_model_statements.specs.Forests as forests
use Rattle.stan_model_statements.specs.Forests.{Forest}
use Rattle.stan_model_files.specs.Shapes.{Shape, nil, mark, word, none, some, forest}
use Rattle.stan_stmt_rules.specs.Ahead.{pick_at}
use Rattle.stan_stmt_rules.specs.Parse as plain
use Rattle.stan_stmt_rules.specs.Parse.{after, word_at, checked_at, choose, most}
use Rattle.stan_stmt_parts.specs.Parse.{Piece, Putting, onto, standing, optional, items, run_by, first_at, pieced, one, may, many, all, run, read}
use Rattle.stan_stmt_parts.proofs.KindLemmas.{see}
use Rattle.stan_parts_law.specs.Laws.{bare, Forgets, HaveTrees}

pub bind_ok : {A B : Type 0} (r : Option A) (f : A → Option B) (y : B) → (r >>= f) ≡ Some y → (x : A) × (r ≡ Some x) × (f x ≡ Some y)
bind_ok (Some x) f y e = (x, refl, e)
bind_ok None f y e = absurd cc

pub some_is : {A : Type 0} (x y : A) → (let s : A → Option A = Some in s x ≡ s y) → x ≡ y
some_is x y e = cc

pub optional_forest : (o : Option Piece) (f : Shape) → forest (optional o f) ≡ plain.optional (option_map bare o) (forest f)
optional_forest None f = refl
optional_forest (Some p) f = refl

pub items_forest : (ps : List Piece) (f : Shape) → forest (items ps f) ≡ plain.items (map bare ps) (forest f)
items_forest [] f = refl
items_forest (p ∷ ps) f = ap (forests.some p.0 (forest p.2)) (items_forest ps f)

module _ where
  -- one thing behind another
  onto_forgets : {A B : Type 0} (g : A → B) (r : Read A) (q : Read B) (next : A × ℕ → Read Shape) (pnext : B × ℕ → Read Forest) (put : A → Shape → Shape) (pput : B → Forest → Forest)
      → Forgets g r q → ((x : A × ℕ) → Forgets forest (next x) (pnext (g x.0, x.1))) → ((a : A) (f : Shape) → forest (put a f) ≡ pput (g a) (forest f))
      → Forgets forest (r >>= λ x. next x >>= onto (put x.0)) (q >>= λ x. pnext x >>= plain.onto (pput x.0))
  onto_forgets g r q next pnext put pput first later same y e =
      let x = bind_ok r (λ x. next x >>= onto (put x.0)) y e in
      let z = bind_ok (next x.0) (onto (put x.0.0)) y x.2 in
      let is = some_is (put x.0.0 z.0.0, z.0.1) y z.2 in
      rw (first x.0 x.1) (rw (later x.0 z.0 z.1)
      (ap (λ (t : Forest × ℕ). let o : Forest × ℕ → Option (Forest × ℕ) = Some in o t) (ap (λ (t : Forest). let o : Forest × ℕ = (t, z.0.1) in o) (sym (same x.0.0 z.0.0)) ∙ ap (λ (t : Shape × ℕ). let o : Forest × ℕ = (forest t.0, t.1) in o) is)))

module _ (ts : List Token) (named : Token → Bool) (value : ℕ → ℕ → Bool → ℕ → Read Putting) (expression : ℕ → Bool → ℕ → Read Tree) (behind : ℕ → ℕ → TokenKind)
    (trees : (room levels : ℕ) (p : Bool) (at : ℕ) → HaveTrees (value room levels p at) (expression levels p at)) where
  module _ (below : Rule → ℕ → Read Shape) (plain_below : Rule → ℕ → Read Forest) (forgets : (r : Rule) (at : ℕ) → Forgets forest (below r at) (plain_below r at)) (levels : ℕ) where
    piece_forgets : (r : Rule) (at : ℕ) → Forgets bare (pieced ts named value behind below levels r at) (plain.pieced ts named expression behind plain_below levels r at)
    piece_forgets r at y e =
        let x = bind_ok (below r at) (λ p. Some ((r, first_at ts r at, p.0), p.1)) y e in
        let is = some_is ((r, first_at ts r at, x.0.0), x.0.1) y x.2 in
        rw (forgets r at x.0 x.1) (ap (λ (t : Piece × ℕ). let o : plain.Piece × ℕ → Option (plain.Piece × ℕ) = Some in o (bare t.0, t.1)) is)

    one_forgets : (s : Sort) (at : ℕ) → Forgets bare (one ts named value behind below levels s at) (plain.one ts named expression behind plain_below levels s at)
    unfolding one plain.one
    one_forgets s at y e =
        let r = bind_ok (pick_at ts (behind levels) s at) (λ r. pieced ts named value behind below levels r at) y e in
        rw r.1 (piece_forgets r.0 at y r.2)

    may_forgets : (s : Sort) (at : ℕ) → Forgets (option_map bare) (may ts named value behind below levels s at) (plain.may ts named expression behind plain_below levels s at)
    unfolding may plain.may
    may_forgets s at y e = by (see (pick_at ts (behind levels) s at))
      where
        by : (pick_at ts (behind levels) s at ≡ None) ⊎ ((r : Rule) × (pick_at ts (behind levels) s at ≡ Some r)) → plain.may ts named expression behind plain_below levels s at ≡ Some (option_map bare y.0, y.1)
        by (inl n) = rw n (ap (λ (t : Option Piece × ℕ). let o : Option plain.Piece × ℕ → Option (Option plain.Piece × ℕ) = Some in o (option_map bare t.0, t.1)) (some_is (None, at) y (rw n at e)))
        by (inr r) =
            let x = bind_ok (pieced ts named value behind below levels r.0 at) (λ p. Some (Some p.0, p.1)) y (rw r.1 at e) in
            rw (r.1, piece_forgets r.0 at x.0 x.1) (ap (λ (t : Option Piece × ℕ). let o : Option plain.Piece × ℕ → Option (Option plain.Piece × ℕ) = Some in o (option_map bare t.0, t.1)) (some_is (Some x.0.0, x.0.1) y x.2))

    many_forgets : (n : ℕ) (s : Sort) (found : List Piece) (at : ℕ) (y : List Piece × ℕ) → many ts named value behind below levels n s found at ≡ Some y
        → plain.many ts named expression behind plain_below levels n s (map bare found) at ≡ Some (map bare y.0, y.1)
    many_forgets zero s found at y e = absurd cc
    many_forgets (suc n) s found at y e = by (λ more to h. many_forgets n s more to y h) (see (pick_at ts (behind levels) s at))
      where
        by : ((more : List Piece) (to : ℕ) → many ts named value behind below levels n s more to ≡ Some y → plain.many ts named expression behind plain_below levels n s (map bare more) to ≡ Some (map bare y.0, y.1))
            → (pick_at ts (behind levels) s at ≡ None) ⊎ ((r : Rule) × (pick_at ts (behind levels) s at ≡ Some r)) → plain.many ts named expression behind plain_below levels (suc n) s (map bare found) at ≡ Some (map bare y.0, y.1)
        by later (inl h) = rw h (ap (λ (t : List Piece × ℕ). let o : List plain.Piece × ℕ → Option (List plain.Piece × ℕ) = Some in o (map bare t.0, t.1)) (some_is (found, at) y (rw h at e)))
        by later (inr r) =
            let x = bind_ok (pieced ts named value behind below levels r.0 at) (λ p. many ts named value behind below levels n s (found ++ p.0 ∷ []) p.1) y (rw r.1 at e) in
            rw (r.1, piece_forgets r.0 at x.0 x.1) (rw (sym (map_push bare found x.0.0)) (later (found ++ x.0.0 ∷ []) x.0.1 x.2))

    all_forgets : (s : Sort) (at : ℕ) → Forgets (map bare) (all ts named value behind below levels s at) (plain.all ts named expression behind plain_below levels s at)
    unfolding all plain.all
    all_forgets s at y e = many_forgets (length ts + 1) s [] at y e

    pub run_forgets : (room : ℕ) (xs : List Symbol) (at : ℕ) → Forgets forest (run ts named value behind below levels room xs at) (plain.run ts named expression behind plain_below levels xs at)
    run_forgets room [] at y e = ap (λ (t : Shape × ℕ). let o : Forest × ℕ → Option (Forest × ℕ) = Some in o (forest t.0, t.1)) (some_is (nil, at) y e)
    run_forgets room (Mark k ∷ xs) at y e =
        let b = bind_ok (after ts k at) (λ b. run ts named value behind below levels room xs b >>= onto mark) y e in
        let z = bind_ok (run ts named value behind below levels room xs b.0) (onto mark) y b.2 in
        rw (b.1, run_forgets room xs b.0 z.0 z.1) (ap (λ (t : Shape × ℕ). let o : Forest × ℕ → Option (Forest × ℕ) = Some in o (forest t.0, t.1)) (some_is (mark z.0.0, z.0.1) y z.2))
    run_forgets room (Word ks ∷ xs) at y e =
        let b = bind_ok (word_at ts ks at) (λ t. run ts named value behind below levels room xs (at + 1) >>= onto (word t)) y e in
        let z = bind_ok (run ts named value behind below levels room xs (at + 1)) (onto (word b.0)) y b.2 in
        rw (b.1, run_forgets room xs (at + 1) z.0 z.1) (ap (λ (t : Shape × ℕ). let o : Forest × ℕ → Option (Forest × ℕ) = Some in o (forest t.0, t.1)) (some_is (word b.0 z.0.0, z.0.1) y z.2))
    run_forgets room (Checked c ∷ xs) at y e =
        let b = bind_ok (checked_at ts named c at) (λ t. run ts named value behind below levels room xs (at + 1) >>= onto (word t)) y e in
        let z = bind_ok (run ts named value behind below levels room xs (at + 1)) (onto (word b.0)) y b.2 in
        rw (b.1, run_forgets room xs (at + 1) z.0 z.1) (ap (λ (t : Shape × ℕ). let o : Forest × ℕ → Option (Forest × ℕ) = Some in o (forest t.0, t.1)) (some_is (word b.0 z.0.0, z.0.1) y z.2))
    run_forgets room (Expression p ∷ xs) at y e =
        let x = bind_ok (value room levels p at) (λ v. run ts named value behind below levels room xs v.1 >>= onto v.0) y e in
        let z = bind_ok (run ts named value behind below levels room xs x.0.1) (onto x.0.0) y x.2 in
        let is = some_is (x.0.0 z.0.0, z.0.1) y z.2 in
        let tree = trees room levels p at x.0 x.1 in
        rw tree.1 (rw (run_forgets room xs x.0.1 z.0 z.1)
        (ap (λ (t : Forest × ℕ). let o : Forest × ℕ → Option (Forest × ℕ) = Some in o t) (ap (λ (t : Forest). let o : Forest × ℕ = (t, z.0.1) in o) (sym (tree.2 z.0.0)) ∙ ap (λ (t : Shape × ℕ). let o : Forest × ℕ = (forest t.0, t.1) in o) is)))
    run_forgets room (Part One s ∷ xs) at y e = onto_forgets bare (one ts named value behind below levels s at) (plain.one ts named expression behind plain_below levels s at) (λ v. run ts named value behind below levels room xs v.1) (λ v. plain.run ts named expression behind plain_below levels xs v.1) standing plain.standing (one_forgets s at) (λ v. run_forgets room xs v.1) (λ p f. refl) y e
    run_forgets room (Part May s ∷ xs) at y e = onto_forgets (option_map bare) (may ts named value behind below levels s at) (plain.may ts named expression behind plain_below levels s at) (λ v. run ts named value behind below levels room xs v.1) (λ v. plain.run ts named expression behind plain_below levels xs v.1) optional plain.optional (may_forgets s at) (λ v. run_forgets room xs v.1) optional_forest y e
    run_forgets room (Part Many s ∷ xs) at y e = onto_forgets (map bare) (all ts named value behind below levels s at) (plain.all ts named expression behind plain_below levels s at) (λ v. run ts named value behind below levels room xs v.1) (λ v. plain.run ts named expression behind plain_below levels xs v.1) items plain.items (all_forgets s at) (λ v. run_forgets room xs v.1) items_forest y e
    run_forgets room (Part Again s ∷ xs) at y e = onto_forgets (map bare) (all ts named value behind below levels s at) (plain.all ts named expression behind plain_below levels s at) (λ v. run ts named value behind below levels room xs v.1) (λ v. plain.run ts named expression behind plain_below levels xs v.1) items plain.items (all_forgets s at) (λ v. run_forgets room xs v.1) items_forest y e

  -- a production
  pub read_forgets : (n levels : ℕ) (r : Rule) (at : ℕ) → Forgets forest (read ts named value behind n levels r at) (plain.read ts named expression behind n levels r at)
  read_forgets zero levels r at y e = absurd cc
  read_forgets (suc n) levels r at y e = by (run_forgets (read ts named value behind n (levels + weight r)) (plain.read ts named expression behind n (levels + weight r)) (read_forgets n (levels + weight r)) (levels + weight r) n (symbols r) at y) (nat_le (levels + weight r) most) e
    where
      by : (run ts named value behind (read ts named value behind n (levels + weight r)) (levels + weight r) n (symbols r) at ≡ Some y
          → plain.run ts named expression behind (plain.read ts named expression behind n (levels + weight r)) (levels + weight r) (symbols r) at ≡ Some (forest y.0, y.1))
          → (c : Bool) → (if c then run ts named value behind (read ts named value behind n (levels + weight r)) (levels + weight r) n (symbols r) at else None) ≡ Some y
          → (if c then plain.run ts named expression behind (plain.read ts named expression behind n (levels + weight r)) (levels + weight r) (symbols r) at else None) ≡ Some (forest y.0, y.1)
      by whole true h = whole h
      by whole false h = absurd cc

  -- a part that stands
  pub part_forgets : (n levels : ℕ) (s : Sort) (at : ℕ) → Forgets bare (one ts named value behind (read ts named value behind n levels) levels s at) (plain.one ts named expression behind (plain.read ts named expression behind n levels) levels s at)
  part_forgets n levels = one_forgets (read ts named value behind n levels) (plain.read ts named expression behind n levels) (read_forgets n levels) levels
