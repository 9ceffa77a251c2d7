-- Files as a tree in memory holds them.
use Rattle.std.specs.Prelude.{◌≡◌, ◌≢◌, ◌&&◌, ℕ, Bool, not, List, Vec, String, All, AllPairs, map, string_bytes, bytes_eq, codes}
use Rattle.std.specs.FinMap as finite
use Rattle.std.specs.List.{list_all}
use Rattle.std.specs.Cmp.Lexicographic.{slice_cmp}
use Rattle.std.specs.Ordering.{nat_cmp}
use Rattle.std.specs.declared.cmp.Ordering.{Ordering}
use Rattle.std.specs.declared.cmp.Ordering.TheVariants.{Less}
use Rattle.std.specs.declared.alloc.Global.{Global}
use Rattle.stan_outside.specs.Contents.{Contents, is_proper_part, parts_of}
use Rattle.stan_outside.specs.Outside.{ArePaths, IsPath}

-- the path and the bytes of a file
abbrev pub file_of : String Global × Vec ℕ Global → List ℕ × List ℕ
file_of file = (string_bytes file.0, file.1.items)

abbrev pub path_of : String Global × Vec ℕ Global → List ℕ
path_of file = string_bytes file.0

abbrev pub tree_contents : List (String Global × Vec ℕ Global) → Contents
tree_contents files = finite.from_entries (map file_of files)

-- a part of a proper path
abbrev pub is_name : List ℕ → Bool
is_name part = is_proper_part part && not (bytes_eq part (codes ".."))

-- whether a path is proper
abbrev pub is_path : List ℕ → Bool
is_path path = list_all is_name (parts_of path)

-- each path is proper, and no two are equal
pub record AreFiles (files : List (String Global × Vec ℕ Global)) : Type 0 where
  pub proper : ArePaths (tree_contents files)
  pub distinct : AllPairs (λ a b. path_of a ≢ path_of b) files

-- in the byte order of the paths
abbrev pub path_cmp : String Global × Vec ℕ Global → String Global × Vec ℕ Global → Ordering
path_cmp a b = slice_cmp nat_cmp (path_of a) (path_of b)

abbrev pub Rise : List (String Global × Vec ℕ Global) → Type 0
Rise files = AllPairs (λ a b. path_cmp a b ≡ Less) files

-- each path is proper, and less than those behind it
pub record AreRising (files : List (String Global × Vec ℕ Global)) : Type 0 where
  pub proper : All (λ file. IsPath (path_of file)) files
  pub rise : Rise files
