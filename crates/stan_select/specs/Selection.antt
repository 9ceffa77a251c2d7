-- What the choice of files answers.
use Rattle.std.specs.Prelude.{◌↔◌, ℕ, Bool, true, false, List, map, String, string_bytes}
use Rattle.std.specs.declared.alloc.Global.{Global}
use Rattle.std.specs.List.{Contains}
use Rattle.std.specs.List.Sorted.{IsStrictlySortedBy}
use Rattle.std.specs.Ordering.{nat_cmp}
use Rattle.std.specs.Cmp.Lexicographic.{slice_cmp}
use Rattle.stan_settings.specs.declared.Config.{Config}
use Rattle.stan_select.specs.Choice.{IsAnalysed, IsScanned}

-- a chosen file: its path, and whether it is analysed
abbrev pub Chosen : Type 0
Chosen = List ℕ × Bool

abbrev pub chosen_files : List (String Global × Bool) → List Chosen
chosen_files files = map (λ file. (string_bytes file.0, file.1)) files

abbrev pub paths_of : List Chosen → List (List ℕ)
paths_of files = map (λ file. file.0) files

-- The files of a listing that a configuration chooses: in byte order of their paths, each once.
pub record IsSelection (config : Config) (listed : List (List ℕ)) (files : List Chosen) : Type 0 where
  pub rising : IsStrictlySortedBy (slice_cmp nat_cmp) (paths_of files)
  pub analysed : (file : List ℕ) → Contains files (file, true) ↔ (Contains listed file × IsAnalysed config file)
  pub scanned : (file : List ℕ) → Contains files (file, false) ↔ (Contains listed file × IsScanned config file)
