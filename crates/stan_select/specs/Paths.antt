-- Where files stand.
use Rattle.std.specs.Prelude.{◌≡◌, ◌⊎◌, ℕ, List, [], ◌∷◌, ◌++◌, codes}

-- A file stands under a path in normal form: all files under the whole folder, else those whose path goes on with `/` (47).
abbrev pub IsUnder : List ℕ → List ℕ → Type 0
IsUnder path file = (path ≡ []) ⊎ ((name : List ℕ) × (file ≡ path ++ (47 ∷ name)))

abbrev pub IsPhp : List ℕ → Type 0
IsPhp file = (front : List ℕ) × (file ≡ front ++ codes ".php")
