-- What stands in a list, and lists that rise.
use Rattle.std.specs.Prelude.{◌≡◌, ◌⊎◌, List, [], ◌∷◌}
use Rattle.std.specs.declared.cmp.Ordering.{Ordering}
use Rattle.std.specs.declared.cmp.Ordering.TheVariants.{Less, Equal}

abbrev pub In : {X : Type 0} → X → List X → Type 0
In x [] = ⊥
In x (y ∷ ys) = (x ≡ y) ⊎ In x ys

-- each item is below those after it
abbrev pub Rises : {X : Type 0} → (X → X → Ordering) → List X → Type 0
Rises {X} order [] = Unit {0}
Rises {X} order (x ∷ xs) = ((y : X) → In y xs → order x y ≡ Less) × Rises order xs

-- items that tie are equal
abbrev pub Tells : {X : Type 0} → (X → X → Ordering) → List X → Type 0
Tells {X} order xs = (x y : X) → In x xs → In y xs → order x y ≡ Equal → x ≡ y
