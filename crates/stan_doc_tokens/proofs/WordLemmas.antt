-- Bytes that are one of two.
use Rattle.std.proofs.Common.{◌≡◌, ℕ, List, [], ◌∷◌, Bool, true, false, refl}
use Rattle.std.specs.Prelude.{◌==◌, ◌||◌}
use Rattle.std.specs.List.{list_any}

shuffle : (a b c d : Bool) → ((a || b) || (c || d)) ≡ ((a || c) || (b || d))
shuffle true b c d = refl
shuffle false true true d = refl
shuffle false true false d = refl
shuffle false false c d = refl

pub any_or : (xs : List ℕ) → list_any (λ b. (b == 92) || (b == 45)) xs ≡ (list_any (λ b. b == 92) xs || list_any (λ b. b == 45) xs)
any_or [] = refl
any_or (x ∷ xs) = rw (any_or xs) (shuffle (x == 92) (x == 45) (list_any (λ b. b == 92) xs) (list_any (λ b. b == 45) xs))
