-- What is made of a configuration, ready for look-ups.
use Rattle.std.specs.Prelude.{◌≡◌, ◌⊎◌, ◌↔◌, ℕ, ◌==◌, Bool, IsTrue, List, ◌++◌, filter, map, string_bytes}
use Rattle.std.specs.List.{Contains, list_any}
use Rattle.stan_settings.specs.declared.Config.{Config}
use Rattle.stan_patterns.specs.Patterns.{Matches}
use Rattle.stan_select.specs.declared.lookups.Lookups.{Lookups}
use Rattle.stan_select.specs.Choice.{normal_paths}
use Rattle.stan_select.specs.Names.{AreNames, Covers, HasChooser}
use Rattle.stan_select.specs.Selection.{Chosen, paths_of}

-- whether a path has a `*` (42)
abbrev pub has_star : List ℕ → Bool
has_star path = list_any (λ byte. byte == 42) path

pub record AreLookups (config : Config) (lookups : Lookups) : Type 0 where
  pub analysed : AreNames (normal_paths config.paths) lookups.analysed
  pub scanned : AreNames (normal_paths config.scan_files ++ normal_paths config.scan_directories) lookups.scanned
  pub excluded : AreNames (normal_paths config.exclude) lookups.excluded
  pub patterns : map string_bytes lookups.patterns.items ≡ filter has_star (normal_paths config.exclude)

-- One of the patterns matches a file.
abbrev pub HasPattern : List (List ℕ) → List ℕ → Type 0
HasPattern patterns file = (pattern : List ℕ) × (Contains patterns pattern × Matches pattern file)

-- An entry is the file, or a folder over it, or a pattern that matches it.
abbrev pub IsExcluded : Lookups → List ℕ → Type 0
IsExcluded lookups file = Covers lookups.excluded file ⊎ HasPattern (map string_bytes lookups.patterns.items) file

-- A path chooses the file, be it to be analysed or scanned.
abbrev pub HasAnyChooser : Lookups → List ℕ → Type 0
HasAnyChooser lookups file = HasChooser lookups.analysed file ⊎ HasChooser lookups.scanned file

-- A path chooses the file, and no entry excludes it.
pub record IsKept (lookups : Lookups) (file : List ℕ) : Type 0 where
  pub chosen : HasAnyChooser lookups file
  pub not_excluded : IsExcluded lookups file → ⊥

-- The kept files of a listing, in whatever order.
abbrev pub AreKept : Lookups → List (List ℕ) → List (List ℕ) → Type 0
AreKept lookups listed paths = (file : List ℕ) → Contains paths file ↔ (Contains listed file × IsKept lookups file)

-- Paths, each with whether it is analysed.
pub record AreMarked (lookups : Lookups) (paths : List (List ℕ)) (files : List Chosen) : Type 0 where
  pub same : paths_of files ≡ paths
  pub marks : (file : List ℕ) (mark : Bool) → Contains files (file, mark) → IsTrue mark ↔ HasChooser lookups.analysed file
