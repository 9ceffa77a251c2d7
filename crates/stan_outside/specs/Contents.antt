-- What a folder holds.
use Rattle.std.specs.Prelude.{ℕ, ◌==◌, ◌&&◌, not, Bool, List, [], codes}
use Rattle.std.specs.List.{slice_split}
use Rattle.std.specs.Ordering.{nat_cmp}
use Rattle.std.specs.Cmp.Lexicographic.{slice_cmp}
use Rattle.std.specs.FinMap as finite
use Rattle.std.specs.Str.{bytes_eq}

-- what a folder holds: the bytes of each file, by its path, with `/` between the parts of a path
abbrev pub Contents : Type 0
Contents = finite.FinMap (slice_cmp nat_cmp) (List ℕ)

abbrev pub parts_of : List ℕ → List (List ℕ)
parts_of path = slice_split (λ b. b == 47) path

abbrev pub is_proper_part : List ℕ → Bool
is_proper_part part = not (bytes_eq part []) && not (bytes_eq part (codes "."))
