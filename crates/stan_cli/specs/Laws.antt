-- What holds of the choice of files in every folder: each is the contract of a function of the module `laws`.
use Rattle.std.specs.Prelude.{◌≡◌, ℕ, ◌↔◌, IsTrue, IsSome, List, map}
use Rattle.std.specs.List.{Contains}
use Rattle.std.specs.List.Sorted.{IsStrictlySortedBy}
use Rattle.std.specs.Ordering.{nat_cmp}
use Rattle.std.specs.Cmp.Lexicographic.{slice_cmp}
use Rattle.std.specs.FinMap as finite
use Rattle.stan_outside.specs.Contents.{Contents}
use Rattle.stan_paths.specs.Paths.{normal_path}
use Rattle.stan_cli.specs.Project.{is_chosen, chosen_files, paths_of}

-- Each chosen path stands once, in byte order.
abbrev pub ChosenOnceInOrder : Type 0
ChosenOnceInOrder = (paths : List (List ℕ)) (contents : Contents) → IsStrictlySortedBy (slice_cmp nat_cmp) (paths_of (chosen_files paths contents))

-- The chosen paths are those that the folder holds and that a given path chooses.
abbrev pub ChosenAreHeld : Type 0
ChosenAreHeld = (paths : List (List ℕ)) (contents : Contents) (path : List ℕ) → Contains (paths_of (chosen_files paths contents)) path ↔ (IsSome (finite.get contents path) × IsTrue (is_chosen (map normal_path paths) path))

-- The order in which paths are given, and that one is given twice, changes nothing.
abbrev pub ChosenInAnyOrder : Type 0
ChosenInAnyOrder = (paths others : List (List ℕ)) (contents : Contents) → ((path : List ℕ) → Contains paths path ↔ Contains others path) → chosen_files paths contents ≡ chosen_files others contents
