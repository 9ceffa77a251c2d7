-- Folding a name twice is folding it once, and the parts of a folded namespace.
use Rattle.std.proofs.Common.{◌≡◌, ◌≢◌, ◌⊎◌, ℕ, ◌-◌, ◌<◌, ◌≤◌, true, false, ◌||◌, List, [], ◌∷◌, ◌++◌, zero, suc, length, take, drop, get_or, eqb, refl, sym, ap, subst, ◌∙◌, inl, inr, ⊎_elim, arith}
use Rattle.std.proofs.lemmas.Bool.{cond-true, cond-false, cases_Bool, ne_eqb, eq-eqb}
use Rattle.std.proofs.lemmas.List.Folds.{list_any_at}
use Rattle.std.proofs.lemmas.Str.Ascii.{lowercase-lowercase}
use Rattle.std.specs.Char.{to_ascii_lowercase}
use Rattle.std.specs.List.{list_any}
use Rattle.stan_base.specs.declared.ask_kind.AskKind.{AskKind}
use Rattle.stan_base.specs.declared.ask_kind.AskKind.TheVariants as kinds
use Rattle.stan_base.specs.Bytes.{fold_case}
use Rattle.stan_base.specs.Names.{fold_namespace, fold_name}

pub fold_case_twice : (name : List ℕ) → fold_case (fold_case name) ≡ fold_case name
fold_case_twice [] = refl
fold_case_twice (b ∷ bs) = cc (lowercase-lowercase b, fold_case_twice bs)

-- a letter's case makes no backslash of it
backslash_kept : (b : ℕ) → eqb (to_ascii_lowercase b) 92 ≡ eqb b 92
backslash_kept b = grind arith

fold_namespace-some : (b : ℕ) (bs : List ℕ) → list_any (λ x. eqb x 92) (b ∷ bs) ≡ true → fold_namespace (b ∷ bs) ≡ to_ascii_lowercase b ∷ fold_namespace bs
fold_namespace-some b bs some = cond-true (list_any (λ x. eqb x 92) (b ∷ bs)) (to_ascii_lowercase b ∷ fold_namespace bs) (b ∷ bs) some

fold_namespace-none : (name : List ℕ) → list_any (λ x. eqb x 92) name ≡ false → fold_namespace name ≡ name
fold_namespace-none [] none = refl
fold_namespace-none (b ∷ bs) none = cond-false (list_any (λ x. eqb x 92) (b ∷ bs)) (to_ascii_lowercase b ∷ fold_namespace bs) (b ∷ bs) none

any_backslash_kept : (name : List ℕ) → list_any (λ x. eqb x 92) (fold_namespace name) ≡ list_any (λ x. eqb x 92) name
any_backslash_kept [] = refl
any_backslash_kept (b ∷ bs) =
    ⊎_elim
    (λ some. ap (list_any (λ x. eqb x 92)) (fold_namespace-some b bs some) ∙ ap (λ t. t || list_any (λ x. eqb x 92) (fold_namespace bs)) (backslash_kept b) ∙ ap (λ t. eqb b 92 || t) (any_backslash_kept bs))
    (λ none. ap (list_any (λ x. eqb x 92)) (fold_namespace-none (b ∷ bs) none))
    (cases_Bool (list_any (λ x. eqb x 92) (b ∷ bs)))

pub fold_namespace_twice : (name : List ℕ) → fold_namespace (fold_namespace name) ≡ fold_namespace name
fold_namespace_twice [] = refl
fold_namespace_twice (b ∷ bs) =
    ⊎_elim
    (λ some. rw (fold_namespace-some b bs some)
    (fold_namespace-some (to_ascii_lowercase b) (fold_namespace bs) (sym (ap (list_any (λ x. eqb x 92)) (fold_namespace-some b bs some)) ∙ any_backslash_kept (b ∷ bs) ∙ some)
    ∙ cc (lowercase-lowercase b, fold_namespace_twice bs)))
    (λ none. ap fold_namespace (fold_namespace-none (b ∷ bs) none))
    (cases_Bool (list_any (λ x. eqb x 92) (b ∷ bs)))

pub fold_name_twice : (kind : AskKind) (name : List ℕ) → fold_name kind (fold_name kind name) ≡ fold_name kind name
fold_name_twice kinds.Class name = fold_case_twice name
fold_name_twice kinds.Function name = fold_case_twice name
fold_name_twice kinds.Constant name = fold_namespace_twice name

no_backslash : (name : List ℕ) → ((k : ℕ) → k < length name → get_or name k 0 ≢ 92) → list_any (λ x. eqb x 92) name ≡ false
no_backslash [] none = refl
no_backslash (b ∷ bs) none =
    rw (ne_eqb b 92 (none 0 (omega arith))) (no_backslash bs (λ k lt. none (suc k) (omega arith)))

-- where the byte at a place is a backslash, so it is behind the first byte, or that is the byte
ends_tail : (b : ℕ) (bs : List ℕ) (end : ℕ) → get_or (b ∷ bs) end 0 ≡ 92 → (end ≡ 0) ⊎ (get_or bs (end - 1) 0 ≡ 92)
ends_tail b bs zero e = inl refl
ends_tail b bs (suc end) e = let same : end ≡ suc end - 1 = omega arith in inr (subst (λ k. get_or bs k 0 ≡ 92) same e)

-- a namespace of so many bytes, which ends in a backslash, and behind it none
pub fold_namespace-parts : (name : List ℕ) (end : ℕ) → end ≤ length name → (end ≡ 0) ⊎ (get_or name (end - 1) 0 ≡ 92)
    → ((k : ℕ) → end ≤ k → k < length name → get_or name k 0 ≢ 92) → fold_namespace name ≡ fold_case (take end name) ++ drop end name
fold_namespace-parts name zero within ends last = fold_namespace-none name (no_backslash name (λ k lt. last k (omega arith) lt))
fold_namespace-parts [] (suc end) within ends last = refl
fold_namespace-parts (b ∷ bs) (suc end) within ends last =
    let same : suc end - 1 ≡ end = omega arith in
    let here : get_or (b ∷ bs) end 0 ≡ 92 = ⊎_elim (λ z. absurd (omega arith)) (λ e. subst (λ k. get_or (b ∷ bs) k 0 ≡ 92) same e) ends in
    fold_namespace-some b bs (list_any_at (λ x. eqb x 92) (b ∷ bs) end 0 (omega arith) (eq-eqb (get_or (b ∷ bs) end 0) 92 here))
    ∙ ap (λ rest. to_ascii_lowercase b ∷ rest) (fold_namespace-parts bs end (omega arith) (ends_tail b bs end here) (λ k ge lt. last (suc k) (omega arith) (omega arith)))

-- the same, with the parts by names of their own
pub fold_namespace_from_parts : (name front back folded : List ℕ) (end : ℕ) → end ≤ length name → (end ≡ 0) ⊎ (get_or name (end - 1) 0 ≡ 92)
    → ((k : ℕ) → end ≤ k → k < length name → get_or name k 0 ≢ 92)
    → front ≡ take end name → back ≡ drop end name → folded ≡ fold_case front → folded ++ back ≡ fold_namespace name
fold_namespace_from_parts name front back folded end within ends last f b m = cc (fold_namespace-parts name end within ends last)
