-- A part that has one production is read by it, and one of several by the first that is read.
use Rattle.std.proofs.Common.{◌≡◌, ℕ, zero, suc, ◌+◌, ◌-◌, ◌≤◌, Bool, true, false, List, [], ◌∷◌, ◌++◌, length, Option, Some, None, refl, sym, ap, ◌∙◌, ◌⊎◌, inl, inr, arith, ◌&&◌}
use Rattle.std.specs.Prelude.{map, nat_le, if◌then◌else◌}
use Rattle.std.proofs.lemmas.Bool.{le-leb}
use Rattle.std.proofs.lemmas.List.{append_assoc}
use Rattle.stan_model_doc.specs.declared.token.DocToken.{DocToken}
use Rattle.stan_model_doc.specs.Symbols.{Sort, Tag, Default, Written, Unary, Atom, Field, One, May, Many, Symbol, Mark, Word, Any, Part}
use Rattle.stan_model_doc.specs.Rules.{Rule, conditional, default_value, param_tag, order, symbols}
use Rattle.stan_model_doc.specs.Trees.{Forest, mark, word, any, none}
use Rattle.stan_doc_descent.specs.Parse.{Read, Piece, ◌>>=◌, onto, standing, choose, after, word_at, any_at, first, one, many, run}
use Rattle.stan_doc_descent.proofs.Words.{and_split}
use Rattle.stan_doc_levels.specs.Levels.{production, level}
use Rattle.stan_doc_trees.specs.Tree.{items, further, behind_mark, stood}
use Rattle.stan_doc_parts.specs.Gives.{part, maybe, gather, every, inside, enter, whole, wholes}

pub further_are : {A : Type 0} (r : Rule) (g : A → Piece) (xs : List A) (f : Forest) → items (map (λ x. behind_mark r (g x)) xs) f ≡ further r (map g xs) f
further_are r g [] f = refl
further_are r g (x ∷ xs) f = ap (standing (behind_mark r (g x))) (further_are r g xs f)

append_nil : (xs : List Piece) → xs ++ [] ≡ xs
append_nil [] = refl
append_nil (x ∷ xs) = ap (λ z. x ∷ z) (append_nil xs)

onto_twice : (o : Read Forest) (p : Piece) (ps : List Piece) → (o >>= onto (items ps) >>= onto (standing p)) ≡ (o >>= onto (items (p ∷ ps)))
onto_twice None p ps = refl
onto_twice (Some x) p ps = refl

module _ (ts : List DocToken) (n : ℕ) where
  abbrev From : List Piece → List Piece × ℕ → List Piece × ℕ
  From found g = (found ++ g.0, g.1)

  gathered : (k : ℕ) (s : Sort) (found : List Piece) (at : ℕ) → gather ts n k s found at ≡ From found (gather ts n k s [] at)
  gathered zero s found at = ap (λ z. (z, at)) (sym (append_nil found))
  gathered (suc k) s found at = by (part ts n s at) (λ more b. gathered k s more b)
    where
      by : (o : Option (Piece × ℕ)) → ((more : List Piece) (b : ℕ) → gather ts n k s more b ≡ From more (gather ts n k s [] b))
          → choose o (λ p. gather ts n k s (found ++ p.0 ∷ []) p.1) (found, at) ≡ From found (choose o (λ p. gather ts n k s ([] ++ p.0 ∷ []) p.1) ([], at))
      by None h = ap (λ z. (z, at)) (sym (append_nil found))
      by (Some p) h =
          let g = gather ts n k s [] p.1 in
          h (found ++ p.0 ∷ []) p.1 ∙ (ap (λ z. (z, g.1)) (append_assoc found (p.0 ∷ []) g.0)) ∙ ap (From found) (sym (h ([] ++ p.0 ∷ []) p.1))

  -- what `many` reads, by the items and by what stands behind them
  many_is : (s : Sort) (behind : ℕ → Read Forest) (k at : ℕ) → many ts (level n ts) s behind k at ≡ (let g = gather ts n k s [] at in behind g.1 >>= onto (items g.0))
  unfolding part
  many_is s behind zero at = refl
  many_is s behind (suc k) at = by (one ts (level n ts) s at) (λ b. many_is s behind k b)
    where
      by : (o : Option (Piece × ℕ)) → ((b : ℕ) → many ts (level n ts) s behind k b ≡ (let g = gather ts n k s [] b in behind g.1 >>= onto (items g.0)))
          → choose o (λ p. many ts (level n ts) s behind k p.1 >>= onto (standing p.0)) (behind at >>= onto none)
          ≡ (let g = choose o (λ p. gather ts n k s ([] ++ p.0 ∷ []) p.1) ([], at) in behind g.1 >>= onto (items g.0))
      by None h = refl
      by (Some p) h = rw (h p.1, gathered k s ([] ++ p.0 ∷ []) p.1) (onto_twice (behind (gather ts n k s [] p.1).1) p.0 (gather ts n k s [] p.1).0)

bind_same : {A B : Type 0} (o : Option A) (f g : A → Option B) → ((x : A) → f x ≡ g x) → (o >>= f) ≡ (o >>= g)
bind_same None f g h = refl
bind_same (Some x) f g h = h x

module _ (ts : List DocToken) (n : ℕ) where
  -- symbols are read so
  pub run_is : (xs : List Symbol) (at : ℕ) → run ts (level n ts) xs at ≡ inside ts n xs at
  unfolding part maybe every
  run_is [] at = refl
  run_is (Mark k ∷ xs) at = bind_same (after ts k at) _ _ (λ b. ap (λ z. z >>= onto mark) (run_is xs b))
  run_is (Word ks ∷ xs) at = bind_same (word_at ts ks at) _ _ (λ t. ap (λ z. z >>= onto (word t)) (run_is xs (at + 1)))
  run_is (Any stop ∷ xs) at = bind_same (any_at ts stop at) _ _ (λ k. ap (λ z. z >>= onto (any k)) (run_is xs (at + k)))
  run_is (Part One s ∷ xs) at = bind_same (one ts (level n ts) s at) _ _ (λ p. ap (λ z. z >>= onto (standing p.0)) (run_is xs p.1))
  run_is (Part May s ∷ xs) at = by (one ts (level n ts) s at) (λ b. run_is xs b)
    where
      by : (o : Option (Piece × ℕ)) → ((b : ℕ) → run ts (level n ts) xs b ≡ inside ts n xs b)
          → choose o (λ p. run ts (level n ts) xs p.1 >>= onto (standing p.0)) (run ts (level n ts) xs at >>= onto none)
          ≡ (choose o (λ p. let s : (Option Piece × ℕ) → Option (Option Piece × ℕ) = Some in s (Some p.0, p.1)) (Some (None, at)) >>= λ p. inside ts n xs p.1 >>= onto (stood p.0))
      by None h = ap (λ z. z >>= onto none) (h at)
      by (Some p) h = ap (λ z. z >>= onto (standing p.0)) (h p.1)
  run_is (Part Many s ∷ xs) at =
      let g = gather ts n (length ts + 1) s [] at in
      many_is ts n s (λ b. run ts (level n ts) xs b) (length ts + 1) at ∙ ap (λ z. z >>= onto (items g.0)) (run_is xs g.1)

-- Whether a production is read by its symbols alone.
abbrev pub is_plain : Rule → Bool
is_plain conditional = false
is_plain default_value = false
is_plain r = true

plain_production : (ts : List DocToken) (below : List DocToken → Rule → ℕ → Read Forest) (r : Rule) (at : ℕ) → is_plain r ≡ true → production ts below r at ≡ run ts (below ts) (symbols r) at
plain_production ts below conditional at h = absurd cc
plain_production ts below default_value at h = absurd cc
plain_production ts below r at h = refl

abbrev pub are_plain : List Rule → Bool
are_plain [] = true
are_plain (r ∷ rs) = is_plain r && are_plain rs

-- the production of a part that has one
abbrev head : List Rule → Rule
head [] = param_tag
head (r ∷ rs) = r

abbrev pub single : Sort → Rule
single s = head (order s)

abbrev is_one : List Rule → Bool
is_one (r ∷ []) = true
is_one rs = false

abbrev pub is_single : Sort → Bool
is_single s = is_one (order s) && are_plain (order s)

pub pieced : (r : Rule) (o : Read Forest) (other : Read Piece) → choose o (λ p. let s : (Piece × ℕ) → Option (Piece × ℕ) = Some in s ((r, p.0), p.1)) other ≡ choose (o >>= λ p. let s : (Piece × ℕ) → Option (Piece × ℕ) = Some in s ((r, p.0), p.1)) Some other
pieced r None other = refl
pieced r (Some p) other = refl

pub itself : (o : Read Piece) → choose o Some None ≡ o
itself None = refl
itself (Some p) = refl

module _ (ts : List DocToken) where
  pub level_is : (n : ℕ) (r : Rule) (at : ℕ) (other : Read Piece) → is_plain r ≡ true → choose (level n ts r at) (λ p. Some ((r, p.0), p.1)) other ≡ choose (whole ts n r at) Some other
  unfolding whole
  level_is zero r at other h = refl
  level_is (suc n) r at other h =
      let some : nat_le 1 (suc n) ≡ true = le-leb 1 (suc n) (omega arith) in
      let less : suc n - 1 ≡ n = omega arith in
      rw (plain_production ts (level n) r at h, run_is ts n (symbols r) at, some, less) (pieced r (inside ts n (symbols r) at) other)

  first_is : (n : ℕ) (rs : List Rule) (at : ℕ) → are_plain rs ≡ true → first ts (level n ts) rs at ≡ wholes ts n rs at
  first_is n [] at h = refl
  first_is n (r ∷ rs) at h =
      let both = and_split (is_plain r) (are_plain rs) h in
      ap (choose (level n ts r at) (λ p. Some ((r, p.0), p.1))) (first_is n rs at both.1) ∙ level_is n r at (wholes ts n rs at) both.0

  -- A part of several productions is read by the first that is read.
  pub part_first : (n : ℕ) (s : Sort) (at : ℕ) → are_plain (order s) ≡ true → part ts n s at ≡ wholes ts n (order s) at
  unfolding part
  part_first n s at h = first_is n (order s) at h

  -- A part that has one production is read by it.
  pub part_enters : (n : ℕ) (s : Sort) (at : ℕ) → is_single s ≡ true → part ts n s at ≡ whole ts n (single s) at
  unfolding part
  part_enters n s at h = let both = and_split (is_one (order s)) (are_plain (order s)) h in by (order s) both.0 both.1
    where
      by : (rs : List Rule) → is_one rs ≡ true → are_plain rs ≡ true → first ts (level n ts) rs at ≡ whole ts n (head rs) at
      by [] i p = absurd cc
      by (r ∷ []) i p = level_is n r at None (and_split (is_plain r) true p).0 ∙ itself (whole ts n r at)
      by (r ∷ q ∷ rs) i p = absurd cc
