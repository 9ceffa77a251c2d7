-- Paths of files, whose parts `/` (47) separates.
use Rattle.std.specs.Prelude.{ℕ, List, filter}
use Rattle.std.specs.List.{Contains, join_with_byte}
use Rattle.std.specs.List.Sorted.{IsStrictlySortedBy}
use Rattle.std.specs.Ordering.{nat_cmp}
use Rattle.std.specs.Cmp.Lexicographic.{slice_cmp}
use Rattle.stan_outside.specs.Contents.{parts_of, is_proper_part}

-- a path without empty parts and parts `.`, so that `.` and the empty path name the whole folder
abbrev pub normal_path : List ℕ → List ℕ
normal_path path = join_with_byte 47 (filter is_proper_part (parts_of path))

-- the same paths in byte order, each once
pub record IsInOrder (paths ordered : List (List ℕ)) : Type 0 where
  pub rising : IsStrictlySortedBy (slice_cmp nat_cmp) ordered
  pub keeps : (path : List ℕ) → Contains paths path → Contains ordered path
  pub adds_none : (path : List ℕ) → Contains ordered path → Contains paths path
