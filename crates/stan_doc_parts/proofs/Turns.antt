-- A loop that reads parts one by one, as `gather` does.
use Rattle.std.proofs.Common.{◌≡◌, ℕ, zero, suc, ◌+◌, ◌-◌, ◌≤◌, ◌<◌, List, [], ◌∷◌, ◌++◌, length, Option, Some, None, refl, sym, ap, ◌∙◌, arith}
use Rattle.stan_model_doc.specs.declared.token.DocToken.{DocToken}
use Rattle.stan_model_doc.specs.Symbols.{Sort}
use Rattle.stan_doc_descent.specs.Parse.{Piece, choose}
use Rattle.stan_doc_parts.specs.Gives.{part, gather, every}

module _ (ts : List DocToken) (n : ℕ) (s : Sort) where
  abbrev Turns : ℕ → List Piece → ℕ → List Piece × ℕ
  Turns k found at = gather ts n k s found at

  unrolled : (k i : ℕ) (found : List Piece) (at : ℕ) → i < k → Turns (k - i) found at ≡ choose (part ts n s at) (λ p. Turns (k - (i + 1)) (found ++ p.0 ∷ []) p.1) (found, at)
  unrolled k i found at lt = let e : k - i ≡ suc (k - (i + 1)) = omega arith in rw e refl

  pub turn_takes : (k i : ℕ) (found : List Piece) (at : ℕ) (total : List Piece × ℕ) (p : Piece) (to : ℕ) → i < k → Turns (k - i) found at ≡ total
      → part ts n s at ≡ Some (p, to) → Turns (k - (i + 1)) (found ++ p ∷ []) to ≡ total
  turn_takes k i found at total p to lt so_far h = sym (unrolled k i found at lt ∙ rw h refl) ∙ so_far

  pub turn_ends : (k i : ℕ) (found : List Piece) (at : ℕ) (total : List Piece × ℕ) → i < k → Turns (k - i) found at ≡ total → part ts n s at ≡ None → total ≡ (found, at)
  turn_ends k i found at total lt so_far h = sym so_far ∙ unrolled k i found at lt ∙ rw h refl

  pub turns_end : (k i : ℕ) (found : List Piece) (at : ℕ) (total : List Piece × ℕ) → k ≤ i → Turns (k - i) found at ≡ total → total ≡ (found, at)
  turns_end k i found at total le so_far = let e : k - i ≡ 0 = omega arith in sym so_far ∙ rw e refl
