-- Worked tests on types: the parts of a type, and those of what is kept or left, in order.
use Rattle.std.specs.Prelude.{◌≡◌, ℕ, pos, negsuc, true, false, List, [], ◌∷◌, codes}
use Rattle.stan_model_types.specs.Types.{Part, Object, Static, Meeting, AnyObject, Template, Array, Shape, Callable, Int, Float, Str, ClassString, False, True, Null, Void, ImplicitMixed, ExplicitMixed, Literal, NonEmpty, Plain, TextKey, PhpType, no_type, no_field, field_and, of_parts}
use Rattle.stan_model_types.specs.TypeFilters.{Filter, Nulls, Bools, Ints, Floats, Strings, Arrays, Objects, Callables, Truthy, Falsy, Only, array_key, greatest_int, keep, least_int, without}
use Rattle.stan_model_types.specs.TypeLimits.{implicit_mixed}

abbrev pub Keeps : Filter → List Part → List Part → Type 0
Keeps f ps wanted = keep f (of_parts ps) ≡ of_parts wanted

abbrev pub Leaves : Filter → List Part → List Part → Type 0
Leaves f ps wanted = without f (of_parts ps) ≡ of_parts wanted

abbrev pub alone : Part → PhpType
alone p = of_parts (p ∷ [])

abbrev pub number : ℕ → Part
number n = Int (pos n) (pos n)

abbrev pub ints : Part
ints = Int least_int greatest_int

abbrev pub texts : Part
texts = Str Plain

abbrev pub quoted : List ℕ → Part
quoted text = Str (Literal text)

abbrev pub named : List ℕ → Part
named name = Object name no_type

abbrev pub any_array : Part
any_array = Array array_key implicit_mixed false false

abbrev pub bounded : PhpType → Part
bounded bound = Template (codes "f") (codes "T") bound

-- a shape with a field that may be missing
abbrev pub optional : Part
optional = Shape (field_and (TextKey (codes "a")) true (alone ints) no_field)

-- a shape with one that may not
abbrev pub required : Part
required = Shape (field_and (TextKey (codes "a")) false (alone ints) no_field)

abbrev pub objects : List Part
objects = named (codes "C") ∷ Static (codes "C") ∷ Meeting (codes "A" ∷ codes "B" ∷ []) ∷ AnyObject ∷ []

pub record WorkedTests : Type 0 where
  -- of `mixed` the widest part of a kind
  pub widest_null : Keeps Nulls (ImplicitMixed ∷ []) (Null ∷ [])
  pub widest_bool : Keeps Bools (ExplicitMixed ∷ []) (False ∷ True ∷ [])
  pub widest_float : Keeps Floats (ImplicitMixed ∷ []) (Float ∷ [])
  pub widest_string : Keeps Strings (ExplicitMixed ∷ []) (texts ∷ [])
  pub widest_object : Keeps Objects (ImplicitMixed ∷ []) (AnyObject ∷ [])
  pub widest_callable : Keeps Callables (ExplicitMixed ∷ []) (Callable ∷ [])
  pub widest_literal : Keeps (Only (number 5)) (ImplicitMixed ∷ []) (number 5 ∷ [])
  -- kinds by number
  pub all_objects : Keeps Objects (named (codes "C") ∷ Static (codes "C") ∷ Meeting (codes "A" ∷ codes "B" ∷ []) ∷ AnyObject ∷ Float ∷ Null ∷ []) objects
  pub shapes : Keeps Arrays (required ∷ Null ∷ []) (required ∷ [])
  pub void_is_no_null : Keeps Nulls (Void ∷ []) []
  pub void_stays : Leaves Nulls (Null ∷ Void ∷ []) (Void ∷ [])
  pub no_strings : Leaves Strings (ints ∷ texts ∷ ClassString ∷ Null ∷ []) (ints ∷ Null ∷ [])
  pub no_arrays : Leaves Arrays (any_array ∷ Null ∷ []) (Null ∷ [])
  pub no_bools : Leaves Bools (Float ∷ False ∷ True ∷ []) (Float ∷ [])
  pub template_stays : Leaves Ints (bounded (alone ints) ∷ ints ∷ []) (bounded (alone ints) ∷ [])
  -- what may be called
  pub called : Keeps Callables (named (codes "C") ∷ required ∷ Callable ∷ ints ∷ texts ∷ ClassString ∷ Null ∷ []) (named (codes "C") ∷ required ∷ Callable ∷ texts ∷ ClassString ∷ [])
  pub called_object : Keeps Objects (Callable ∷ []) (AnyObject ∷ [])
  pub called_array : Keeps Arrays (Callable ∷ []) (any_array ∷ [])
  pub called_literal : Keeps (Only (quoted (codes "x"))) (Callable ∷ []) (quoted (codes "x") ∷ [])
  pub called_five : Keeps (Only (number 5)) (Callable ∷ []) []
  pub not_called : Leaves Callables (named (codes "CLOSURE") ∷ Callable ∷ texts ∷ []) (texts ∷ [])
  -- one value
  pub only_null : Keeps (Only Null) (Null ∷ Void ∷ []) (Null ∷ [])
  pub no_null : Leaves (Only Null) (Null ∷ Void ∷ []) (Void ∷ [])
  pub only_true : Keeps (Only True) (False ∷ True ∷ []) (True ∷ [])
  pub in_range : Keeps (Only (number 5)) (Int (pos 1) (pos 9) ∷ []) (number 5 ∷ [])
  pub at_greatest : Leaves (Only (Int greatest_int greatest_int)) (ints ∷ []) (Int least_int (pos 9223372036854775806) ∷ [])
  pub at_least : Leaves (Only (Int least_int least_int)) (ints ∷ []) (Int (negsuc 9223372036854775806) greatest_int ∷ [])
  pub a_range : Keeps (Only (Int (pos 1) (pos 5))) (ints ∷ texts ∷ []) (ints ∷ texts ∷ [])
  pub no_literal : Keeps (Only (quoted (10 ∷ []))) (texts ∷ []) (texts ∷ [])
  pub not_empty : Keeps (Only (quoted [])) (Str NonEmpty ∷ []) []
  pub name_stays : Leaves (Only (quoted (codes "Foo"))) (ClassString ∷ []) (ClassString ∷ [])
  -- what counts as false
  pub void_is_falsy : Keeps Falsy (Void ∷ []) (Null ∷ [])
  pub zero_of_range : Keeps Falsy (Int (negsuc 3) (pos 5) ∷ []) (number 0 ∷ [])
  pub no_zero : Keeps Falsy (Int (pos 1) (pos 5) ∷ []) []
  pub may_be_empty : Keeps Falsy (optional ∷ []) (Shape no_field ∷ [])
  pub never_empty : Keeps Falsy (required ∷ []) []
  pub optional_stays : Leaves Falsy (optional ∷ []) (optional ∷ [])
  pub zero_text : Keeps Falsy (Str NonEmpty ∷ ClassString ∷ []) (quoted (codes "0") ∷ [])
  pub by_bound : Keeps Falsy (bounded (alone ints) ∷ []) (number 0 ∷ [])
  pub float_of_bound : Keeps Falsy (bounded (alone Float) ∷ []) (Float ∷ [])
  pub still_mixed : Leaves Falsy (ImplicitMixed ∷ []) (ImplicitMixed ∷ [])
  -- what counts as true is the other way round
  pub truthy_string : Keeps Truthy (texts ∷ False ∷ True ∷ []) (Str NonEmpty ∷ True ∷ [])
  pub not_truthy : Leaves Truthy (ints ∷ Float ∷ Null ∷ []) (number 0 ∷ Float ∷ Null ∷ [])
