-- The files of a folder that given paths choose, and the limits on them.
use Rattle.std.specs.Prelude.{ℕ, ◌+◌, ◌==◌, ◌&&◌, ◌||◌, nat_lt, if◌then◌else◌, Bool, List, [], ◌∷◌, Option, Some, None, map, filter, length, codes, take, slice_index, nat_eq}
use Rattle.std.specs.List.{starts_with, ends_with, list_any}
use Rattle.std.specs.FinMap as finite
use Rattle.std.specs.Str.{bytes_eq}
use Rattle.stan_model_readings.specs.Reading.{largest_source}
use Rattle.stan_outside.specs.Contents.{Contents, parts_of}
use Rattle.stan_paths.specs.Paths.{normal_path}

-- ---- paths as they are given

abbrev pub is_absolute : List ℕ → Bool
is_absolute path = starts_with nat_eq path (codes "/")

abbrev pub has_parent_part : List ℕ → Bool
has_parent_part path = list_any (λ part. bytes_eq part (codes "..")) (parts_of path)

-- a path that begins with `/` or has a part `..`
abbrev pub leads_outside : List ℕ → Bool
leads_outside path = is_absolute path || has_parent_part path

-- ---- the choice of files

-- whether a file stands under a path in normal form: its path begins with it, and `/` follows
abbrev pub is_under : List ℕ → List ℕ → Bool
is_under path file = (length path == 0) || (starts_with nat_eq file path && (slice_index file (length path) == 47))

-- A path chooses the file of that name, and each file under it whose name ends in `.php`.
abbrev pub chooses : List ℕ → List ℕ → Bool
chooses path file = bytes_eq file path || (is_under path file && ends_with nat_eq file (codes ".php"))

-- whether one of the paths, in normal form, chooses the file
abbrev pub is_chosen : List (List ℕ) → List ℕ → Bool
is_chosen paths file = list_any (λ path. chooses path file) paths

-- the chosen files in byte order of their paths, with their bytes. One byte more than a file may have is looked at.
abbrev pub chosen_files : List (List ℕ) → Contents → List (List ℕ × List ℕ)
chosen_files paths contents = map (λ file. (file.0, take (largest_source + 1) file.1)) (filter (λ file. is_chosen (map normal_path paths) file.0) (finite.entries contents))

abbrev pub paths_of : List (List ℕ × List ℕ) → List (List ℕ)
paths_of files = map (λ file. file.0) files

abbrev pub sources_of : List (List ℕ × List ℕ) → List (List ℕ)
sources_of files = map (λ file. file.1) files

-- ---- limits

-- the most files that are analysed together
abbrev pub most_files : ℕ
most_files = 50000

-- the most bytes that are read of them together
abbrev pub most_bytes : ℕ
most_bytes = 268435456

-- the first sum of the lengths, each added to those before it, that passes the limit
abbrev pub excess_from : ℕ → List (List ℕ) → Option ℕ
excess_from sum [] = None
excess_from sum (source ∷ sources) = if nat_lt most_bytes (sum + length source) then Some (sum + length source) else excess_from (sum + length source) sources

-- how many sources are read until a sum passes the limit, or all of them
abbrev pub reads_until : ℕ → List (List ℕ) → ℕ
reads_until sum [] = 0
reads_until sum (source ∷ sources) = if nat_lt most_bytes (sum + length source) then 1 else (1 + reads_until (sum + length source) sources)
