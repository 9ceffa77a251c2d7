-- A tree nests at most eight levels a token, and ends where its tokens end.
use Rattle.std.proofs.Common.{◌≡◌, ℕ, suc, ◌+◌, ◌*◌, ◌≤◌, ◌<◌, Bool, true, false, List, [], ◌∷◌, length, refl, sym, subst, ◌⊎◌, inl, inr, arith, ◌&&◌}
use Rattle.std.specs.Prelude.{not, nat_le, slice_get}
use Rattle.std.proofs.lemmas.Bool.{leb-true}
use Rattle.std.proofs.lemmas.Option.{slice_get_within}
use Rattle.stan_model_doc.specs.declared.token.DocKind.{DocKind}
use Rattle.stan_model_doc.specs.declared.token.DocToken.{DocToken}
use Rattle.stan_model_doc.specs.Tokens.{kind_at}
use Rattle.stan_model_doc.specs.Symbols.{Sort, Fields, Field, Parameters, Parameter, Written, Alt, Both, Unary, Need, One, May, Many, Symbol, Mark, Word, Any, Part, lacks, rest}
use Rattle.stan_model_doc.specs.Rules.{Rule, param_tag, symbols, sort_of}
use Rattle.stan_model_doc.specs.Trees.{Forest, nil, mark, word, any, none, some}
use Rattle.stan_model_doc.specs.Grammar.{Runs}
use Rattle.stan_doc_descent.specs.Parse.{height}
use Rattle.stan_doc_descent.specs.Tables.{implies, is_end}
use Rattle.stan_doc_descent.proofs.Words.{and_split, implied}
use Rattle.stan_doc_descent.proofs.Runs.{rises, rule_starts}
use Rattle.stan_doc_conditions.proofs.BracketLemmas.{token_there}

-- how many levels may begin at one place
abbrev rank : Sort → ℕ
rank Unary = 1
rank Both = 2
rank Alt = 3
rank Written = 4
rank Field = 5
rank Fields = 6
rank Parameter = 5
rank Parameters = 6
rank s = 0

ranks : (s : Sort) → rank s ≤ 6
ranks Unary = omega arith
ranks Both = omega arith
ranks Alt = omega arith
ranks Written = omega arith
ranks Field = omega arith
ranks Fields = omega arith
ranks Parameter = omega arith
ranks Parameters = omega arith
ranks s = omega arith

-- whether the parts before the first token are of smaller ranks
abbrev led : ℕ → List Symbol → Bool
led k [] = true
led k (Mark kind ∷ xs) = true
led k (Word kinds ∷ xs) = true
led k (Any stop ∷ xs) = false
led k (Part n s ∷ xs) = nat_le (suc (rank s)) k && implies (lacks n) (led k xs)

rule_led : (r : Rule) → led (rank (sort_of r)) (symbols r) ≡ true
rule_led param_tag = refl
rule_led r = refl

-- no symbol is the end
abbrev solid : List Symbol → Bool
solid [] = true
solid (Mark kind ∷ xs) = not (is_end kind) && solid xs
solid (Word kinds ∷ xs) = solid xs
solid (Any stop ∷ xs) = solid xs
solid (Part n s ∷ xs) = solid xs

rule_solid : (r : Rule) → solid (symbols r) ≡ true
rule_solid param_tag = refl
rule_solid r = refl

again : (n : Need) (s : Sort) (xs : List Symbol) → solid xs ≡ true → solid (rest n s xs) ≡ true
again One s xs h = h
again May s xs h = h
again Many s xs h = h

module _ (ts : List DocToken) where
  before : (kind : DocKind) (at : ℕ) → not (is_end kind) ≡ true → kind_at ts at ≡ kind → at + 1 ≤ length ts
  unfolding kind_at
  before kind at n h = let t = token_there (slice_get ts at) kind n h in omega (arith, slice_get_within ts at t.0 t.1)

  pub within : (xs : List Symbol) (f : Forest) (at to : ℕ) → solid xs ≡ true → at ≤ length ts → Runs ts xs f at to → to ≤ length ts
  within [] nil at to s le h = omega (arith, h, le)
  within (Mark kind ∷ xs) (mark f) at to s le h = let both = and_split (not (is_end kind)) (solid xs) s in within xs f (at + 1) to both.1 (before kind at both.0 h.0) h.1
  within (Word kinds ∷ xs) (word t f) at to s le h = within xs f (at + 1) to s (omega (arith, slice_get_within ts at t h.0)) h.2
  within (Any stop ∷ xs) (any n f) at to s le h = within xs f (at + n) to s h.0 h.2
  within (Part n s ∷ xs) (none f) at to c le h = within xs f at to c le h.1
  within (Part n s ∷ xs) (some r ps f) at to c le h = within (rest n s xs) f h.0 to (again n s xs c) (within (symbols r) ps at h.0 (rule_solid r) le h.2) h.3
  within xs f at to s le h = absurd h

  -- the base is where a production begins: its parts begin there and are of smaller ranks, or behind it
  low : (xs : List Symbol) (f : Forest) (k base at to : ℕ) → k ≤ 7 → (base < at) ⊎ ((base ≡ at) × (led k xs ≡ true)) → base < to → Runs ts xs f at to → height f + 8 * (base + 1) ≤ k + 8 * to
  low [] nil k base at to small where_at lt h = omega (arith, lt)
  low (Mark kind ∷ xs) (mark f) k base at to small w lt h = low xs f k base (at + 1) to small (inl (moved w)) lt h.1
    where
      moved : (base < at) ⊎ ((base ≡ at) × (led k (Mark kind ∷ xs) ≡ true)) → base < at + 1
      moved (inl l) = omega (arith, l)
      moved (inr e) = omega (arith, e.0)
  low (Word kinds ∷ xs) (word t f) k base at to small w lt h = low xs f k base (at + 1) to small (inl (moved w)) lt h.2
    where
      moved : (base < at) ⊎ ((base ≡ at) × (led k (Word kinds ∷ xs) ≡ true)) → base < at + 1
      moved (inl l) = omega (arith, l)
      moved (inr e) = omega (arith, e.0)
  low (Any stop ∷ xs) (any n f) k base at to small w lt h = low xs f k base (at + n) to small (inl (moved w)) lt h.2
    where
      moved : (base < at) ⊎ ((base ≡ at) × (led k (Any stop ∷ xs) ≡ true)) → base < at + n
      moved (inl l) = omega (arith, l)
      moved (inr e) = absurd (let x = e.1 in cc)
  low (Part n s ∷ xs) (none f) k base at to small w lt h = low xs f k base at to small (further w) lt h.1
    where
      further : (base < at) ⊎ ((base ≡ at) × (led k (Part n s ∷ xs) ≡ true)) → (base < at) ⊎ ((base ≡ at) × (led k xs ≡ true))
      further (inl l) = inl l
      further (inr e) = inr (e.0, implied (lacks n) (led k xs) (and_split (nat_le (suc (rank s)) k) _ e.1).1 h.0)
  low (Part n s ∷ xs) (some r ps f) k base at to small w lt h =
      let start = rule_starts ts r ps at h.0 h.2 in
      let up = rises ts (rest n s xs) f h.0 to h.3 in
      let part = low (symbols r) ps (rank (sort_of r)) at at h.0 (omega (arith, ranks (sort_of r))) (inr (refl, rule_led r)) start.0 h.2 in
      let others = low (rest n s xs) f k base h.0 to small (inl (beyond w start.0)) lt h.3 in
      let first = nested w start.0 part up in
      omega (arith, first, others)
    where
      beyond : (base < at) ⊎ ((base ≡ at) × (led k (Part n s ∷ xs) ≡ true)) → at < h.0 → base < h.0
      beyond (inl l) lt = omega (arith, l, lt)
      beyond (inr e) lt = omega (arith, e.0, lt)

      nested : (base < at) ⊎ ((base ≡ at) × (led k (Part n s ∷ xs) ≡ true)) → at < h.0 → height ps + 8 * (at + 1) ≤ rank (sort_of r) + 8 * h.0 → h.0 ≤ to → 1 + height ps + 8 * (base + 1) ≤ k + 8 * to
      nested (inl l) lt part up = omega (arith, l, part, up, ranks (sort_of r))
      nested (inr e) lt part up =
          let smaller = leb-true (suc (rank s)) k (and_split (nat_le (suc (rank s)) k) _ e.1).0 in
          let same = subst (λ z. suc (rank z) ≤ k) (sym h.1) smaller in
          omega (arith, e.0, part, up, same)
  low xs f k base at to small w lt h = absurd h

  pub rule_low : (r : Rule) (ps : Forest) (to : ℕ) → Runs ts (symbols r) ps 0 to → height ps + 8 ≤ 6 + 8 * to
  rule_low r ps to h =
      let start = rule_starts ts r ps 0 to h in
      let w = low (symbols r) ps (rank (sort_of r)) 0 0 to (omega (arith, ranks (sort_of r))) (inr (refl, rule_led r)) start.0 h in
      omega (arith, w, ranks (sort_of r))
