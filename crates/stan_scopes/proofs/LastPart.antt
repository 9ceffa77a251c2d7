-- What stands behind the last backslash of a name, by where that stands.
use Rattle.std.proofs.Common.{◌≡◌, ◌≢◌, ◌⊎◌, ℕ, ◌-◌, ◌<◌, ◌≤◌, false, List, [], ◌∷◌, zero, suc, length, drop, get_or, eqb, refl, subst, ◌∙◌, inl, inr, ⊎_elim, arith}
use Rattle.std.proofs.lemmas.Bool.{cond-true, cond-false, ne_eqb, eq-eqb}
use Rattle.std.proofs.lemmas.List.Folds.{list_any_at}
use Rattle.std.specs.List.{list_any}
use Rattle.stan_model_walk.specs.Scopes.{last_part}

no_backslash : (name : List ℕ) → ((k : ℕ) → k < length name → get_or name k 0 ≢ 92) → list_any (λ x. eqb x 92) name ≡ false
no_backslash [] none = refl
no_backslash (b ∷ bs) none =
    rw (ne_eqb b 92 (none 0 (omega arith))) (no_backslash bs (λ k lt. none (suc k) (omega arith)))

whole : (name : List ℕ) → list_any (λ x. eqb x 92) name ≡ false → last_part name ≡ name
whole [] none = refl
whole (b ∷ bs) none = cond-false (list_any (λ x. eqb x 92) (b ∷ bs)) (last_part bs) (b ∷ bs) none

-- where the byte at a place is a backslash, so it is behind the first byte, or that is the byte
ends_tail : (b : ℕ) (bs : List ℕ) (end : ℕ) → get_or (b ∷ bs) end 0 ≡ 92 → (end ≡ 0) ⊎ (get_or bs (end - 1) 0 ≡ 92)
ends_tail b bs zero e = inl refl
ends_tail b bs (suc end) e = let same : end ≡ suc end - 1 = omega arith in inr (subst (λ k. get_or bs k 0 ≡ 92) same e)

-- behind so many bytes, which end in a backslash, and behind which none stands
pub behind_last : (name : List ℕ) (end : ℕ) → end ≤ length name → (end ≡ 0) ⊎ (get_or name (end - 1) 0 ≡ 92)
    → ((k : ℕ) → end ≤ k → k < length name → get_or name k 0 ≢ 92) → last_part name ≡ drop end name
behind_last name zero within ends last = whole name (no_backslash name (λ k lt. last k (omega arith) lt))
behind_last [] (suc end) within ends last = refl
behind_last (b ∷ bs) (suc end) within ends last =
    let same : suc end - 1 ≡ end = omega arith in
    let here : get_or (b ∷ bs) end 0 ≡ 92 = ⊎_elim (λ z. absurd (omega arith)) (λ e. subst (λ k. get_or (b ∷ bs) k 0 ≡ 92) same e) ends in
    cond-true (list_any (λ x. eqb x 92) (b ∷ bs)) (last_part bs) (b ∷ bs) (list_any_at (λ x. eqb x 92) (b ∷ bs) end 0 (omega arith) (eq-eqb (get_or (b ∷ bs) end 0) 92 here))
    ∙ behind_last bs end (omega arith) (ends_tail b bs end here) (λ k ge lt. last (suc k) (omega arith) (omega arith))
