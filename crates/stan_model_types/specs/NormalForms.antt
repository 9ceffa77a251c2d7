-- The normal form of a list of parts, and the union of types.
use Rattle.std.specs.Prelude.{Option, None, Some, ◌≡◌, ℕ, zero, suc, ◌+◌, ℤ, pos, ◌+ℤ◌, int_lt, Bool, true, false, not, ◌&&◌, ◌||◌, nat_le, nat_lt, if◌then◌else◌, List, [], ◌∷◌, ◌++◌, length, map, filter}
use Rattle.std.specs.Int.{int_min, int_max}
use Rattle.std.specs.List.{list_all, list_any, flat_map}
use Rattle.std.specs.Ordering.{match_ordering, nat_cmp, int_eq}
use Rattle.std.specs.declared.cmp.Ordering.{Ordering}
use Rattle.std.specs.Cmp.Lexicographic.{slice_cmp}
use Rattle.stan_model_types.specs.Types.{StringForm, Literal, NonEmpty, Plain, Key, IntKey, TextKey, PhpType, never, Part, Object, Meeting, AnyObject, Array, Shape, Int, Str, no_type, Fields, no_field, field_and, parts, of_parts}
use Rattle.stan_model_types.specs.TypeLimits.{limited, explicit_mixed, implicit_mixed}
use Rattle.stan_model_types.specs.TypeBytes.{kind_of, part_order}

-- ---- in order, each once

-- an item put at its place in a list in order, unless an equal one stands there
module _ {X : Type 0} (order : X → X → Ordering) where
  abbrev pub put : X → List X → List X
  put p [] = p ∷ []
  put p (q ∷ qs) = match_ordering (order p q) (p ∷ q ∷ qs) (q ∷ qs) (q ∷ put p qs)

  abbrev pub put_all : List X → List X → List X
  put_all [] qs = qs
  put_all (p ∷ ps) qs = put_all ps (put p qs)

  -- the items in order, each once
  abbrev pub ordered : List X → List X
  ordered ps = put_all ps []

-- ---- a part alone

-- at most 64 bytes, all from 20 to 7E (hexadecimal)
abbrev pub is_literal_text : List ℕ → Bool
is_literal_text text = nat_le (length text) 64 && list_all (λ b. nat_le 32 b && nat_le b 126) text

-- another literal is a non-empty string
abbrev pub literal_form : List ℕ → StringForm
literal_form text = if is_literal_text text then Literal text else NonEmpty

abbrev pub mended_form : StringForm → StringForm
mended_form (Literal text) = literal_form text
mended_form NonEmpty = NonEmpty
mended_form Plain = Plain

-- a meeting of one class is an object of it, and of none any object
abbrev pub meeting_of : List (List ℕ) → Part
meeting_of [] = AnyObject
meeting_of (name ∷ []) = Object name no_type
meeting_of (name ∷ other ∷ names) = Meeting (name ∷ other ∷ names)

-- names by their bytes, each once
abbrev pub ordered_names : List (List ℕ) → List (List ℕ)
ordered_names = ordered (slice_cmp nat_cmp)

abbrev pub is_key : Key → Bool
is_key (IntKey k) = true
is_key (TextKey text) = is_literal_text text

abbrev pub are_keys : Fields → Bool
are_keys no_field = true
are_keys (field_and k o t fs) = is_key k && are_keys fs

abbrev pub value_types : Fields → List PhpType
value_types no_field = []
value_types (field_and k o t fs) = t ∷ value_types fs

-- ---- numbers

-- a range united with ranges that rise and stand apart: those that it touches or overlaps become one with it
abbrev pub put_range : ℤ → ℤ → List (ℤ × ℤ) → List (ℤ × ℤ)
put_range least greatest [] = (least, greatest) ∷ []
put_range least greatest (r ∷ rs) =
    if int_lt (r.1 +ℤ pos 1) least then r ∷ put_range least greatest rs
    else (if int_lt (greatest +ℤ pos 1) r.0 then (least, greatest) ∷ r ∷ rs
    else put_range (int_min least r.0) (int_max greatest r.1) rs)

abbrev pub put_int : Part → List (ℤ × ℤ) → List (ℤ × ℤ)
put_int (Int least greatest) rs = put_range least greatest rs
put_int _ rs = rs

abbrev pub put_ints : List Part → List (ℤ × ℤ) → List (ℤ × ℤ)
put_ints [] rs = rs
put_ints (p ∷ ps) rs = put_ints ps (put_int p rs)

-- the last greatest of ranges that rise
abbrev pub last_greatest : ℤ → List (ℤ × ℤ) → ℤ
last_greatest n [] = n
last_greatest n (r ∷ rs) = last_greatest r.1 rs

-- the one range from the least to the greatest
abbrev pub hull : List (ℤ × ℤ) → List (ℤ × ℤ)
hull [] = []
hull (r ∷ rs) = (r.0, last_greatest r.1 rs) ∷ []

-- more than 32 ranges become one
abbrev pub few_ranges : List (ℤ × ℤ) → List (ℤ × ℤ)
few_ranges rs = if nat_lt 32 (length rs) then hull rs else rs

abbrev pub range_part : (ℤ × ℤ) → Part
range_part r = Int r.0 r.1

abbrev pub int_parts : List Part → List Part
int_parts ps = map range_part (few_ranges (put_ints ps []))

-- ---- strings

abbrev pub is_plain : Part → Bool
is_plain (Str Plain) = true
is_plain _ = false

abbrev pub is_non_empty : Part → Bool
is_non_empty (Str NonEmpty) = true
is_non_empty _ = false

-- a literal that is none of the others' strings: whether there are all strings, and whether all but `''`
abbrev pub is_free_literal : Bool → Bool → Part → Bool
is_free_literal plain non_empty (Str (Literal [])) = not plain
is_free_literal plain non_empty (Str (Literal (b ∷ bs))) = not (plain || non_empty)
is_free_literal plain non_empty _ = false

abbrev pub free_literals : List Part → List Part
free_literals ps = filter (is_free_literal (list_any is_plain ps) (list_any is_non_empty ps)) ps

-- more than 32 literals become all strings
abbrev pub few_literals : List Part → List Part
few_literals ps = if nat_lt 32 (length ps) then Str Plain ∷ [] else ps

abbrev pub string_parts : List Part → List Part
string_parts ps = few_literals (free_literals ps) ++ filter (λ p. is_plain p || is_non_empty p) ps

-- the parts of the kinds from one number to another
abbrev pub is_of : ℕ → ℕ → Part → Bool
is_of from to p = nat_le from (kind_of p) && nat_le (kind_of p) to

abbrev pub of_kinds : ℕ → ℕ → List Part → List Part
of_kinds from to ps = filter (is_of from to) ps

-- ---- arrays and shapes, over the union of the types inside

-- the keys 0, 1, 2 and so on, from n
abbrev pub counts_from : ℕ → Fields → Bool
counts_from n no_field = true
counts_from n (field_and (IntKey k) o t fs) = int_eq k (pos n) && counts_from (n + 1) fs
counts_from n (field_and (TextKey text) o t fs) = false

-- a field that isn't optional
abbrev pub has_required : Fields → Bool
has_required no_field = false
has_required (field_and k o t fs) = not o || has_required fs

-- what an array and a shape have in common
pub record Table : Type 0 where
  pub key : PhpType
  pub value : PhpType
  pub is_list : Bool
  pub is_filled : Bool

abbrev pub table_part : Table → Part
table_part a = Array a.key a.value a.is_list a.is_filled

module _ (make : List Part → PhpType) where
  -- the union, where `make` makes the normal form of parts
  abbrev pub join : PhpType → PhpType → PhpType
  join t u = make (parts t ++ parts u)

  -- types united from left to right
  abbrev pub join_onto : PhpType → List PhpType → PhpType
  join_onto t [] = t
  join_onto t (u ∷ us) = join_onto (join t u) us

  abbrev pub join_all : List PhpType → PhpType
  join_all [] = never
  join_all (t ∷ ts) = join_onto t ts

  -- the type of a key
  abbrev pub key_type : Key → PhpType
  key_type (IntKey k) = make (Int k k ∷ [])
  key_type (TextKey text) = make (Str (literal_form text) ∷ [])

  abbrev pub key_types : Fields → List PhpType
  key_types no_field = []
  key_types (field_and k o t fs) = key_type k ∷ key_types fs

  -- a shape as an array: its united keys and values, non-empty where a field isn't optional, a list where its keys count from 0
  abbrev pub shape_table : Fields → Table
  shape_table fs = record { key = join_all (key_types fs); value = join_all (value_types fs); is_list = counts_from 0 fs; is_filled = has_required fs }

  abbrev pub tables_of : Part → List Table
  tables_of (Array key value list non_empty) = record { key = key; value = value; is_list = list; is_filled = non_empty } ∷ []
  tables_of (Shape fs) = shape_table fs ∷ []
  tables_of _ = []

  -- keys and values united, and each flag that both have
  abbrev pub join_tables : Table → Table → Table
  join_tables a b = record { key = join a.key b.key; value = join a.value b.value; is_list = a.is_list && b.is_list; is_filled = a.is_filled && b.is_filled }

  abbrev pub with_table : Option Table → Table → Option Table
  with_table None b = Some b
  with_table (Some a) b = Some (join_tables a b)

  -- all of them as one
  abbrev pub joined_tables : Option Table → List Table → Option Table
  joined_tables found [] = found
  joined_tables found (b ∷ bs) = joined_tables (with_table found b) bs

  abbrev pub table_parts : Option Table → List Part
  table_parts None = []
  table_parts (Some a) = table_part a ∷ []

  -- the one array or shape: the only one there is, else the array of all
  abbrev pub array_parts : List Part → List Part
  array_parts ps = if nat_lt 1 (length (of_kinds 6 7 ps)) then table_parts (joined_tables None (flat_map tables_of ps)) else of_kinds 6 7 ps

  -- a part alone: a shape with a key that no shape has is an array without flags, a range without numbers is none
  abbrev pub mended_shape : Fields → Part
  mended_shape fs = if are_keys fs then Shape fs else Array (join_all (key_types fs)) (join_all (value_types fs)) false false

  abbrev pub mended : Part → List Part
  mended (Meeting names) = meeting_of (ordered_names names) ∷ []
  mended (Shape fs) = mended_shape fs ∷ []
  mended (Int least greatest) = if int_lt greatest least then [] else Int least greatest ∷ []
  mended (Str form) = Str (mended_form form) ∷ []
  mended p = p ∷ []

  -- parts in order, each kind by its own rule
  abbrev pub settled_parts : List Part → List Part
  settled_parts ps =
      of_kinds 1 5 ps ++ (array_parts ps ++ (of_kinds 8 8 ps ++ (int_parts ps ++ (of_kinds 10 10 ps ++ (string_parts ps ++ of_kinds 12 16 ps)))))

  -- `mixed` stands alone, and the explicit one wins
  abbrev pub settled : List Part → PhpType
  settled ps =
      if list_any (is_of 18 18) ps then explicit_mixed
      else (if list_any (is_of 17 17) ps then implicit_mixed
      else limited (of_parts (ordered part_order (settled_parts ps))))

-- ---- all parts together

-- the normal form of parts whose inner types are fewer levels deep than the number
unfoldable pub normal_within : ℕ → List Part → PhpType
normal_within zero ps = explicit_mixed
normal_within (suc n) ps = settled (normal_within n) (ordered part_order (flat_map (mended (normal_within n)) ps))

-- the normal form of parts: a type is at most 64 levels deep, and a part that holds one 65
unfoldable pub normal : List Part → PhpType
normal ps = normal_within 66 ps

-- a type that is the normal form of some parts, at some depth inside others
abbrev pub IsNormal : PhpType → Type 0
IsNormal t = (n : ℕ) × ((ps : List Part) × (normal_within n ps ≡ t))

-- the normal form of a part alone
abbrev pub one : Part → PhpType
one p = normal (p ∷ [])

-- the normal form of the parts of both
abbrev pub union : PhpType → PhpType → PhpType
union t u = normal (parts t ++ parts u)
