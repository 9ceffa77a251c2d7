-- Parts as a normal form has them.
use Rattle.std.specs.Prelude.{◌≡◌, ◌⊎◌, ◌≤◌, ◌≤ℤ◌, pos, ◌+ℤ◌, int_lt, true, false, List, [], ◌∷◌, length, filter}
use Rattle.std.specs.List.{list_any}
use Rattle.stan_model_types.specs.Types.{PhpType, Part, Int, of_parts}
use Rattle.stan_model_types.specs.TypeBytes.{part_order}
use Rattle.stan_model_types.specs.TypeFilters.{is_literal_string}
use Rattle.stan_model_types.specs.TypeLimits.{is_within}
use Rattle.stan_model_types.specs.NormalForms.{is_free_literal, is_non_empty, is_of, is_plain, mended, of_kinds}
use Rattle.stan_type_laws.specs.Members.{In, Rises}

-- a part that is alone what it is
abbrev pub IsWhole : Part → Type 0
IsWhole p = (make : List Part → PhpType) → mended make p ≡ p ∷ []

-- int parts that neither touch nor overlap
abbrev pub IsApart : Part → Part → Type 0
IsApart (Int a b) (Int c d) = (int_lt (b +ℤ pos 1) c ≡ true) ⊎ (int_lt (d +ℤ pos 1) a ≡ true)
IsApart _ _ = Unit {0}

abbrev pub ArePairsApart : List Part → Type 0
ArePairsApart ps = (p q : Part) → In p ps → In q ps → (p ≡ q) ⊎ IsApart p q

-- parts without `mixed` that are a normal form
pub record IsSettled (ps : List Part) : Type 0 where
  pub rises : Rises part_order ps
  pub no_mixed : (p : Part) → In p ps → is_of 17 18 p ≡ false
  pub whole : (p : Part) → In p ps → IsWhole p
  pub one_array : length (of_kinds 6 7 ps) ≤ 1
  pub apart : ArePairsApart ps
  pub few_ints : length (of_kinds 9 9 ps) ≤ 32
  pub free : (p : Part) → In p ps → is_literal_string p ≡ true → is_free_literal (list_any is_plain ps) (list_any is_non_empty ps) p ≡ true
  pub few_literals : length (filter is_literal_string ps) ≤ 32
  pub within : is_within (of_parts ps) ≡ true

-- the least of an int part is at most its greatest
abbrev pub HasNumbers : Part → Type 0
HasNumbers (Int least greatest) = least ≤ℤ greatest
HasNumbers _ = Unit {0}

-- so of each int part
abbrev pub HaveNumbers : List Part → Type 0
HaveNumbers [] = Unit {0}
HaveNumbers (p ∷ ps) = HasNumbers p × HaveNumbers ps
