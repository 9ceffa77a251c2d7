-- A loop that takes items one by one, as `many` does.
use Rattle.std.proofs.Common.{◌≡◌, ℕ, suc, ◌-◌, ◌+◌, ◌<◌, List, [], ◌∷◌, ◌++◌, Some, None, refl, sym, ◌∙◌, arith}
use Rattle.stan_expr_rules.specs.Parse.{Read, Turn, many, ◌>>=◌}

unrolled : {A : Type 0} (turn : ℕ → Turn A) (n i : ℕ) (found : List A) (at : ℕ) → i < n
    → many turn (n - i) found at ≡ (turn at >>= elim [ None ↦ Some (found, at) | Some x ↦ many turn (n - (i + 1)) (found ++ x.0 ∷ []) x.1 ])
unrolled turn n i found at lt = let k : n - i ≡ suc (n - (i + 1)) = omega arith in rw k refl

pub loop_takes : {A : Type 0} (turn : ℕ → Turn A) (n i : ℕ) (found : List A) (at : ℕ) (total : Read (List A)) (x : A) (to : ℕ) → i < n
    → many turn (n - i) found at ≡ total → turn at ≡ Some (Some (x, to)) → many turn (n - (i + 1)) (found ++ x ∷ []) to ≡ total
loop_takes turn n i found at total x to lt so_far h = sym (unrolled turn n i found at lt ∙ rw h refl) ∙ so_far
