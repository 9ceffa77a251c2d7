-- What the functions inside promise each other about depths.
use Rattle.std.specs.Prelude.{ℕ, max, List, [], ◌∷◌}

-- the greatest value on a list, and 0 on an empty one
abbrev pub greatest : {A : Type 0} → (A → ℕ) → List A → ℕ
greatest f [] = 0
greatest f (x ∷ xs) = max (f x) (greatest f xs)
