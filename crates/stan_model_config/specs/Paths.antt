-- Paths of a configuration file are relative to its folder.
use Rattle.std.specs.Prelude.{ℕ, ◌-◌, ◌==◌, ◌++◌, if◌then◌else◌, Bool, List, [], ◌∷◌, Option, Some, None, length, take, codes, nat_eq, option_map}
use Rattle.std.specs.List.{starts_with, join_with_byte}
use Rattle.std.specs.Str.{bytes_eq}
use Rattle.stan_outside.specs.Contents.{parts_of, is_proper_part}

abbrev pub is_absolute : List ℕ → Bool
is_absolute path = starts_with nat_eq path (codes "/")

-- without the last part
abbrev pub parent_of : List (List ℕ) → List (List ℕ)
parent_of parts = take (length parts - 1) parts

-- From a folder on, `..` goes to the folder above, which there must be. Empty parts and parts `.` stay where they are.
abbrev pub go : List (List ℕ) → List (List ℕ) → Option (List (List ℕ))
go folder [] = Some folder
go folder (part ∷ parts) =
    if is_proper_part part then (
    if bytes_eq part (codes "..") then (if length folder == 0 then None else go (parent_of folder) parts) else go (folder ++ part ∷ []) parts)
    else go folder parts

-- the parts of the folder in which a file stands
abbrev pub folder_of : List ℕ → List (List ℕ)
folder_of file = parent_of (parts_of file)

-- A path that stands in a file. None leads outside the project's folder: neither one that begins with `/`, nor one that is above it at some part.
abbrev pub resolved : List ℕ → List ℕ → Option (List ℕ)
resolved file path = if is_absolute path then None else option_map (join_with_byte 47) (go (folder_of file) (parts_of path))
