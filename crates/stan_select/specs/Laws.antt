-- What holds of every choice of files: each is the contract of a function of the module `laws`.
use Rattle.std.specs.Prelude.{◌≡◌, ◌↔◌, ℕ, List}
use Rattle.std.specs.List.{Contains}
use Rattle.stan_settings.specs.declared.Config.{Config}
use Rattle.stan_select.specs.Selection.{Chosen, IsSelection}

-- The order of a listing, and that it has a file twice, changes nothing.
abbrev pub SelectedInAnyOrder : Type 0
SelectedInAnyOrder =
    (config : Config) (listed others : List (List ℕ)) (files other_files : List Chosen)
    → ((file : List ℕ) → Contains listed file ↔ Contains others file)
    → IsSelection config listed files
    → IsSelection config others other_files
    → files ≡ other_files

-- Every listing has a selection under every configuration, and only one.
abbrev pub EveryListingHasOneSelection : Type 0
EveryListingHasOneSelection = (config : Config) (listed : List (List ℕ)) → (files : List Chosen) × IsSelection config listed files × ((other : List Chosen) → IsSelection config listed other → other ≡ files)
