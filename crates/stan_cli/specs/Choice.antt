-- What the choice of files gives.
use Rattle.std.specs.Prelude.{ℕ, List, map, IsTrue}
use Rattle.std.specs.List.{Contains}
use Rattle.std.specs.List.Sorted.{IsStrictlySortedBy}
use Rattle.std.specs.Ordering.{nat_cmp}
use Rattle.std.specs.Cmp.Lexicographic.{slice_cmp}
use Rattle.stan_paths.specs.Paths.{normal_path}
use Rattle.stan_cli.specs.Project.{is_chosen}

-- the files of a listing that the paths choose, in byte order, each once
pub record IsChoice (paths listed files : List (List ℕ)) : Type 0 where
  pub rising : IsStrictlySortedBy (slice_cmp nat_cmp) files
  pub listed_each : (file : List ℕ) → Contains files file → Contains listed file
  pub chosen_each : (file : List ℕ) → Contains files file → IsTrue (is_chosen (map normal_path paths) file)
  pub all : (file : List ℕ) → Contains listed file → IsTrue (is_chosen (map normal_path paths) file) → Contains files file
