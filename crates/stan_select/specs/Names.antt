-- Sets of paths that are looked up by their bytes.
use Rattle.std.specs.Prelude.{◌≡◌, ◌⊎◌, ℕ, Bool, IsTrue, List, Vec}
use Rattle.std.specs.List.{list_any}
use Rattle.std.specs.Ordering.{nat_cmp, eq_by_cmp}
use Rattle.std.specs.Cmp.Lexicographic.{slice_cmp}
use Rattle.std.specs.BTreeSet.{BTreeSet, contains_by}
use Rattle.stan_select.specs.Paths.{IsUnder}
use Rattle.stan_select.specs.Choice.{Chooses}

-- whether a set has a path
abbrev pub has : {Z : Type 0} → BTreeSet (Vec ℕ Z) → List ℕ → Bool
has names path = contains_by (λ name. slice_cmp nat_cmp path name.items) names

-- whether a list has a path
abbrev pub is_among : List (List ℕ) → List ℕ → Bool
is_among paths path = list_any (eq_by_cmp (slice_cmp nat_cmp) path) paths

-- A set has the paths of a list.
abbrev pub AreNames : {Z : Type 0} → List (List ℕ) → BTreeSet (Vec ℕ Z) → Type 0
AreNames paths names = (path : List ℕ) → has names path ≡ is_among paths path

-- A file stands under a path of a set.
abbrev pub HasFolder : {Z : Type 0} → BTreeSet (Vec ℕ Z) → List ℕ → Type 0
HasFolder names file = (path : List ℕ) × (IsTrue (has names path) × IsUnder path file)

-- A file is a path of a set, or stands under one.
abbrev pub Covers : {Z : Type 0} → BTreeSet (Vec ℕ Z) → List ℕ → Type 0
Covers names file = IsTrue (has names file) ⊎ HasFolder names file

-- A path of a set chooses a file.
abbrev pub HasChooser : {Z : Type 0} → BTreeSet (Vec ℕ Z) → List ℕ → Type 0
HasChooser names file = (path : List ℕ) × (IsTrue (has names path) × Chooses path file)
