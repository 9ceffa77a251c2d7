-- Which files a configuration chooses, and which it takes away.
use Rattle.std.specs.Prelude.{◌≡◌, ℕ, List, ◌++◌, map, Vec, String, string_bytes}
use Rattle.std.specs.declared.alloc.Global.{Global}
use Rattle.std.specs.List.{Contains}
use Rattle.stan_settings.specs.declared.Config.{Config}
use Rattle.stan_patterns.specs.Patterns.{Matches}
use Rattle.stan_paths.specs.Paths.{normal_path}
use Rattle.stan_select.specs.Paths.{IsUnder, IsPhp}

-- A path in normal form chooses a file.
pub data Chooses (path file : List ℕ) : Type 0 where
  -- It is the file of that name, whatever its suffix.
  Named : file ≡ path → Chooses path file
  -- It stands under the path, and its name ends in `.php`.
  Within : IsUnder path file → IsPhp file → Chooses path file

-- An entry in normal form takes a file away.
pub data TakesAway (entry file : List ℕ) : Type 0 where
  -- It names the file.
  Itself : file ≡ entry → TakesAway entry file
  -- The file stands under it.
  Under : IsUnder entry file → TakesAway entry file
  -- It matches the whole path of the file, where `*` stands for any bytes.
  Matching : Matches entry file → TakesAway entry file

-- texts of a configuration, in normal form
abbrev pub normal_paths : Vec (String Global) Global → List (List ℕ)
normal_paths texts = map normal_path (map string_bytes texts.items)

abbrev pub IsChosenBy : List (List ℕ) → List ℕ → Type 0
IsChosenBy paths file = (path : List ℕ) × (Contains paths path × Chooses path file)

abbrev pub IsTakenAwayBy : List (List ℕ) → List ℕ → Type 0
IsTakenAwayBy entries file = (entry : List ℕ) × (Contains entries entry × TakesAway entry file)

-- A file is analysed: a path chooses it, and no entry of `excludePaths` takes it away.
pub record IsAnalysed (config : Config) (file : List ℕ) : Type 0 where
  pub chosen : IsChosenBy (normal_paths config.paths) file
  pub kept : IsTakenAwayBy (normal_paths config.exclude) file → ⊥

-- A file is only scanned: a file or folder to be scanned chooses it, no entry takes it away, and it is not analysed.
pub record IsScanned (config : Config) (file : List ℕ) : Type 0 where
  pub chosen : IsChosenBy (normal_paths config.scan_files ++ normal_paths config.scan_directories) file
  pub kept : IsTakenAwayBy (normal_paths config.exclude) file → ⊥
  pub not_analysed : IsAnalysed config file → ⊥
