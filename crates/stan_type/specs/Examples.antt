-- Worked normal forms: parts, and the parts of their type in order.
use Rattle.std.specs.Prelude.{◌≡◌, ◌+◌, ℕ, zero, suc, length, ℤ, pos, negsuc, Bool, true, false, List, [], ◌∷◌, ◌++◌, codes, map}
use Rattle.stan_model_types.specs.Types.{Part, PhpType, Object, Static, Meeting, AnyObject, Template, Array, Shape, Callable, Int, Float, Str, ClassString, ClassStringOf, False, True, Null, Void, ImplicitMixed, ExplicitMixed, Literal, NonEmpty, Plain, IntKey, TextKey, no_type, type_and, no_field, field_and, never, of_parts, parts, Fields}
use Rattle.stan_model_types.specs.NormalForms.{normal}
use Rattle.stan_model_types.specs.TypeFilters as filters
use Rattle.stan_model_types.specs.TypeFilters.{array_key, least_int, greatest_int}
use Rattle.stan_model_types.specs.TypeLimits.{implicit_mixed}

-- the parts give the type of the wanted ones
abbrev pub Gives : List Part → List Part → Type 0
Gives ps wanted = normal ps ≡ of_parts wanted

abbrev pub number : ℕ → Part
number n = Int (pos n) (pos n)

abbrev pub alone : Part → PhpType
alone p = of_parts (p ∷ [])

abbrev pub ints : Part
ints = Int least_int greatest_int

abbrev pub texts : Part
texts = Str Plain

abbrev pub quoted : List ℕ → Part
quoted text = Str (Literal text)

abbrev pub named : List ℕ → Part
named name = Object name no_type

abbrev pub list_of : PhpType → Part
list_of value = Array (alone (Int (pos 0) greatest_int)) value true false

abbrev pub pair_of : List ℕ → PhpType → PhpType → Part
pair_of name t u = Object name (type_and t (type_and u no_type))

-- ints that touch or overlap are one
pub record WorkedInts : Type 0 where
  pub touch : Gives (number 1 ∷ Int (pos 2) (pos 5) ∷ []) (Int (pos 1) (pos 5) ∷ [])
  pub overlap : Gives (Int (pos 1) (pos 4) ∷ Int (pos 2) (pos 5) ∷ []) (Int (pos 1) (pos 5) ∷ [])
  pub apart : Gives (number 1 ∷ Int (pos 3) (pos 5) ∷ []) (number 1 ∷ Int (pos 3) (pos 5) ∷ [])
  pub joined : Gives (number 3 ∷ number 1 ∷ number 2 ∷ []) (Int (pos 1) (pos 3) ∷ [])
  pub negative_last : Gives (Int (negsuc 4) (negsuc 2) ∷ number 7 ∷ []) (number 7 ∷ Int (negsuc 4) (negsuc 2) ∷ [])
  pub none : Gives (Int (pos 5) (pos 4) ∷ []) []
  pub all : Gives (Int least_int (negsuc 0) ∷ Int (pos 0) greatest_int ∷ []) (ints ∷ [])
  pub least : Gives (Int least_int (pos 5) ∷ []) (Int least_int (pos 5) ∷ [])
  pub greatest : Gives (Int (pos 1) greatest_int ∷ []) (Int (pos 1) greatest_int ∷ [])

-- strings: a literal goes where a greater part is there
pub record WorkedStrings : Type 0 where
  pub non_empty : Gives (quoted (codes "a") ∷ Str NonEmpty ∷ []) (Str NonEmpty ∷ [])
  pub empty_stays : Gives (quoted [] ∷ Str NonEmpty ∷ []) (quoted [] ∷ Str NonEmpty ∷ [])
  pub plain : Gives (quoted (codes "a") ∷ quoted [] ∷ texts ∷ []) (texts ∷ [])
  pub both_stay : Gives (Str NonEmpty ∷ texts ∷ []) (Str NonEmpty ∷ texts ∷ [])
  pub class_strings_stay : Gives (texts ∷ ClassString ∷ []) (texts ∷ ClassString ∷ [])
  pub by_length : Gives (quoted (codes "bb") ∷ quoted (codes "c") ∷ quoted (codes "a") ∷ []) (quoted (codes "a") ∷ quoted (codes "c") ∷ quoted (codes "bb") ∷ [])
  pub line_feed : Gives (quoted (10 ∷ []) ∷ []) (Str NonEmpty ∷ [])

-- arrays and shapes
pub record WorkedArrays : Type 0 where
  pub list : Gives (Shape (field_and (IntKey (pos 0)) false (alone ints) no_field) ∷ list_of (alone texts) ∷ []) (list_of array_key ∷ [])
  pub equal : Gives (list_of (alone ints) ∷ list_of (alone ints) ∷ []) (list_of (alone ints) ∷ [])
  pub flag_of_both : Gives (list_of (alone ints) ∷ Array array_key (alone texts) false false ∷ []) (Array array_key array_key false false ∷ [])
  pub filled : Gives (Array array_key (alone ints) false true ∷ Array array_key (alone texts) false true ∷ []) (Array array_key array_key false true ∷ [])
  pub any : Gives (Array array_key implicit_mixed false false ∷ []) (Array array_key implicit_mixed false false ∷ [])
  pub no_fields : Gives (Shape no_field ∷ list_of (alone ints) ∷ []) (list_of (alone ints) ∷ [])
  pub shape : Gives (Shape (field_and (TextKey (codes "a")) false (alone ints) (field_and (TextKey (codes "b")) true (alone texts) no_field)) ∷ []) (Shape (field_and (TextKey (codes "a")) false (alone ints) (field_and (TextKey (codes "b")) true (alone texts) no_field)) ∷ [])
  pub key : Gives (Shape (field_and (TextKey (10 ∷ [])) false (alone (number 1)) no_field) ∷ []) (Array (alone (Str NonEmpty)) (alone (number 1)) false false ∷ [])
  pub other_order : Gives (Shape (field_and (TextKey (codes "a")) false (alone (number 1)) (field_and (TextKey (codes "b")) false (alone (quoted (codes "x"))) no_field))
      ∷ Shape (field_and (TextKey (codes "b")) false (alone (quoted (codes "y"))) (field_and (TextKey (codes "a")) false (alone (number 2)) no_field)) ∷ []) (Array (of_parts (quoted (codes "a") ∷ quoted (codes "b") ∷ [])) (of_parts (Int (pos 1) (pos 2) ∷ quoted (codes "x") ∷ quoted (codes "y") ∷ [])) false true ∷ [])

-- the other kinds, and `mixed`
pub record WorkedKinds : Type 0 where
  pub bool : Gives (True ∷ False ∷ []) (False ∷ True ∷ [])
  pub nothing : Gives [] []
  pub explicit : Gives (ImplicitMixed ∷ ExplicitMixed ∷ []) (ExplicitMixed ∷ [])
  pub mixed : Gives (ints ∷ ImplicitMixed ∷ Null ∷ []) (ImplicitMixed ∷ [])
  pub object_stays : Gives (AnyObject ∷ named (codes "C") ∷ []) (named (codes "C") ∷ AnyObject ∷ [])
  pub callable_stays : Gives (Callable ∷ named (codes "Closure") ∷ []) (named (codes "Closure") ∷ Callable ∷ [])
  pub nullable : Gives (Null ∷ False ∷ Void ∷ ints ∷ []) (ints ∷ False ∷ Null ∷ Void ∷ [])
  pub arguments : Gives (pair_of (codes "C") (alone ints) (alone texts) ∷ []) (pair_of (codes "C") (alone ints) (alone texts) ∷ [])
  pub meeting : Gives (Meeting (codes "B" ∷ codes "A" ∷ codes "B" ∷ []) ∷ []) (Meeting (codes "A" ∷ codes "B" ∷ []) ∷ [])
  pub one_name : Gives (Meeting (codes "B" ∷ codes "B" ∷ []) ∷ []) (named (codes "B") ∷ [])
  pub no_name : Gives (Meeting [] ∷ []) (AnyObject ∷ [])
  pub static_class : Gives (Static (codes "C") ∷ Template (codes "f") (codes "T") implicit_mixed ∷ []) (Static (codes "C") ∷ Template (codes "f") (codes "T") implicit_mixed ∷ [])
  pub class_string : Gives (ClassStringOf (alone (named (codes "C"))) ∷ ClassString ∷ []) (ClassString ∷ ClassStringOf (alone (named (codes "C"))) ∷ [])

-- ---- limits

-- the even numbers below twice n, from the greatest
abbrev pub evens : ℕ → List Part
evens zero = []
evens (suc n) = number (n + n) ∷ evens n

-- literals of one byte
abbrev pub letters : ℕ → List Part
letters zero = []
letters (suc n) = quoted ((n + 32) ∷ []) ∷ letters n

abbrev pub nested : ℕ → PhpType
nested zero = alone ints
nested (suc n) = alone (list_of (nested n))

abbrev pub numbered : ℕ → Fields
numbered zero = no_field
numbered (suc n) = field_and (IntKey (pos n)) true never (numbered n)

abbrev pub repeated : ℕ → List ℕ
repeated zero = []
repeated (suc n) = 97 ∷ repeated n

-- each limit at its edge, and one past it
pub record WorkedLimits : Type 0 where
  pub ranges : length (parts (normal (evens 32))) ≡ 32
  pub one_range_more : Gives (evens 33) (Int (pos 0) (pos 64) ∷ [])
  pub literals : length (parts (normal (letters 32))) ≡ 32
  pub one_literal_more : Gives (letters 33) (texts ∷ [])
  pub levels : normal (parts (nested 64)) ≡ nested 64
  pub one_level_more : Gives (parts (nested 65)) (ExplicitMixed ∷ [])
  pub fields : Gives (Shape (numbered 4095) ∷ []) (Shape (numbered 4095) ∷ [])
  pub one_field_more : Gives (Shape (numbered 4096) ∷ []) (ExplicitMixed ∷ [])
  pub bytes : Gives (quoted (repeated 64) ∷ []) (quoted (repeated 64) ∷ [])
  pub one_byte_more : Gives (quoted (repeated 65) ∷ []) (Str NonEmpty ∷ [])
  pub least_byte : Gives (quoted (32 ∷ []) ∷ []) (quoted (32 ∷ []) ∷ [])
  pub below_it : Gives (quoted (31 ∷ []) ∷ []) (Str NonEmpty ∷ [])
  pub greatest_byte : Gives (quoted (126 ∷ []) ∷ []) (quoted (126 ∷ []) ∷ [])
  pub above_it : Gives (quoted (127 ∷ []) ∷ []) (Str NonEmpty ∷ [])

-- ---- tests

abbrev pub Keeps : filters.Filter → List Part → List Part → Type 0
Keeps f ps wanted = filters.keep f (of_parts ps) ≡ of_parts wanted

abbrev pub Leaves : filters.Filter → List Part → List Part → Type 0
Leaves f ps wanted = filters.without f (of_parts ps) ≡ of_parts wanted

abbrev pub zero_text : List ℕ
zero_text = codes "0"

abbrev pub bounded : PhpType → Part
bounded bound = Template (codes "f") (codes "T") bound

-- what tests keep
pub record WorkedKeeps : Type 0 where
  pub null : Keeps filters.Nulls (ints ∷ Null ∷ Void ∷ []) (Null ∷ [])
  pub bool : Keeps filters.Bools (ints ∷ False ∷ True ∷ []) (False ∷ True ∷ [])
  pub int : Keeps filters.Ints (ints ∷ Float ∷ texts ∷ []) (ints ∷ [])
  pub text : Keeps filters.Strings (ints ∷ texts ∷ ClassString ∷ []) (texts ∷ ClassString ∷ [])
  pub array : Keeps filters.Arrays (AnyObject ∷ list_of (alone ints) ∷ []) (list_of (alone ints) ∷ [])
  pub object : Keeps filters.Objects (named (codes "C") ∷ bounded (alone ints) ∷ Callable ∷ []) (named (codes "C") ∷ AnyObject ∷ bounded (alone ints) ∷ [])
  pub mixed_int : Keeps filters.Ints (ImplicitMixed ∷ []) (ints ∷ [])
  pub mixed_array : Keeps filters.Arrays (ExplicitMixed ∷ []) (Array array_key implicit_mixed false false ∷ [])
  pub mixed_truthy : Keeps filters.Truthy (ImplicitMixed ∷ []) (ImplicitMixed ∷ [])
  pub mixed_falsy : Keeps filters.Falsy (ExplicitMixed ∷ []) (ExplicitMixed ∷ [])
  pub closure : Keeps filters.Callables (named (codes "Closure") ∷ []) (named (codes "Closure") ∷ [])
  pub callable_text : Keeps filters.Strings (Callable ∷ []) (texts ∷ [])
  pub callable_int : Keeps filters.Ints (Callable ∷ []) []
  pub template_int : Keeps filters.Ints (bounded implicit_mixed ∷ []) (ints ∷ [])
  pub template_five : Keeps (filters.Only (number 5)) (bounded implicit_mixed ∷ []) (number 5 ∷ [])
  pub template_text : Keeps filters.Ints (bounded (alone texts) ∷ []) []
  pub five : Keeps (filters.Only (number 5)) (ints ∷ texts ∷ []) (number 5 ∷ [])
  pub not_there : Keeps (filters.Only (number 5)) (Int (pos 6) (pos 9) ∷ []) []
  pub class_name : Keeps (filters.Only (quoted (codes "Foo"))) (ClassString ∷ []) (quoted (codes "Foo") ∷ [])
  pub empty_name : Keeps (filters.Only (quoted [])) (ClassString ∷ []) []
  pub a_float : Keeps (filters.Only Float) (Float ∷ ints ∷ []) (Float ∷ ints ∷ [])
  pub callable_falsy : Keeps filters.Falsy (Callable ∷ []) (Shape no_field ∷ quoted [] ∷ quoted zero_text ∷ [])
  pub string_falsy : Keeps filters.Falsy (texts ∷ []) (quoted [] ∷ quoted zero_text ∷ [])
  pub int_falsy : Keeps filters.Falsy (ints ∷ Float ∷ Null ∷ []) (number 0 ∷ Float ∷ Null ∷ [])
  pub object_falsy : Keeps filters.Falsy (named (codes "C") ∷ False ∷ True ∷ []) (False ∷ [])

-- what is left without them
pub record WorkedLeaves : Type 0 where
  pub null : Leaves filters.Nulls (ints ∷ Null ∷ []) (ints ∷ [])
  pub mixed : Leaves filters.Ints (ImplicitMixed ∷ []) (ImplicitMixed ∷ [])
  pub object : Leaves filters.Objects (named (codes "C") ∷ bounded (alone ints) ∷ Null ∷ []) (Null ∷ [])
  pub callable : Leaves filters.Callables (named (codes "closure") ∷ named (codes "C") ∷ Callable ∷ []) (named (codes "C") ∷ [])
  pub least : Leaves (filters.Only (number 1)) (Int (pos 1) (pos 9) ∷ []) (Int (pos 2) (pos 9) ∷ [])
  pub greatest : Leaves (filters.Only (number 9)) (Int (pos 1) (pos 9) ∷ []) (Int (pos 1) (pos 8) ∷ [])
  pub between : Leaves (filters.Only (number 5)) (Int (pos 1) (pos 9) ∷ []) (Int (pos 1) (pos 9) ∷ [])
  pub equal : Leaves (filters.Only (number 5)) (number 5 ∷ texts ∷ []) (texts ∷ [])
  pub a_text : Leaves (filters.Only (quoted (codes "a"))) (quoted (codes "a") ∷ quoted (codes "b") ∷ []) (quoted (codes "b") ∷ [])
  pub a_truth : Leaves (filters.Only True) (False ∷ True ∷ []) (False ∷ [])
  pub a_float : Leaves (filters.Only Float) (Float ∷ []) (Float ∷ [])
  pub zero : Leaves filters.Falsy (number 0 ∷ Float ∷ Null ∷ []) (Float ∷ [])
  pub zero_among : Leaves filters.Falsy (Int (negsuc 4) (pos 5) ∷ []) (Int (negsuc 4) (pos 5) ∷ [])
  pub text : Leaves filters.Falsy (texts ∷ []) (Str NonEmpty ∷ [])
  pub zero_literal : Leaves filters.Falsy (quoted [] ∷ quoted zero_text ∷ quoted (codes "a") ∷ []) (quoted (codes "a") ∷ [])
  pub array : Leaves filters.Falsy (list_of (alone ints) ∷ []) (Array (alone (Int (pos 0) greatest_int)) (alone ints) true true ∷ [])
  pub no_fields : Leaves filters.Falsy (Shape no_field ∷ False ∷ True ∷ []) (True ∷ [])
  pub truthy : Leaves filters.Truthy (texts ∷ True ∷ []) (quoted [] ∷ quoted zero_text ∷ [])
