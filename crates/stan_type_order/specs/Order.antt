-- What an answer says of bytes, whatever stands behind them.
use Rattle.std.specs.Prelude.{◌≡◌, ℕ, Bool, ◌||◌, ◌==◌, nat_le, List, ◌++◌}
use Rattle.std.specs.declared.cmp.Ordering.{Ordering}
use Rattle.std.specs.Ordering.{nat_cmp, ordering_then}
use Rattle.std.specs.Cmp.Lexicographic.{slice_cmp}
use Rattle.stan_model_types.specs.Types.{Field}
use Rattle.stan_model_types.specs.TypeBytes.{key_bytes, number_bytes, truth_bytes, type_bytes}

-- the answer decides between two texts that stand before others, unless it is `Equal`
abbrev pub Decides : Ordering → List ℕ → List ℕ → Type 0
Decides answer a b = (x y : List ℕ) → slice_cmp nat_cmp (a ++ x) (b ++ y) ≡ ordering_then answer (slice_cmp nat_cmp x y)

-- a list, from its count and the bytes of its items
abbrev pub list_bytes : ℕ → List ℕ → List ℕ
list_bytes count items = number_bytes count ++ items

-- a field of a shape
abbrev pub field_bytes : Field → List ℕ
field_bytes f = key_bytes f.key ++ (truth_bytes f.optional ++ type_bytes f.value)

-- the kinds of parts without fields
abbrev pub is_bare_kind : ℕ → Bool
is_bare_kind k = (k == 4) || ((k == 8) || ((k == 10) || nat_le 13 k))
