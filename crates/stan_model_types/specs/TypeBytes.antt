-- The bytes of a type. A number is eight bytes, the greatest first; a text is its length and its bytes; a list is its count and its items.
use Rattle.std.specs.Prelude.{ℕ, ℤ, Bool, true, false, List, [], ◌∷◌, ◌++◌, length}
use Rattle.std.specs.Int.{w64, to_be_bytes, cast_unsigned}
use Rattle.std.specs.Ordering.{nat_cmp}
use Rattle.std.specs.declared.cmp.Ordering.{Ordering}
use Rattle.std.specs.Cmp.Lexicographic.{slice_cmp}
use Rattle.stan_model_types.specs.Types.{StringForm, Literal, NonEmpty, Plain, Key, IntKey, TextKey, PhpType, never, part_and, Part, Object, Static, Meeting, AnyObject, Template, Array, Shape, Callable, Int, Float, Str, ClassString, ClassStringOf, False, True, Null, Void, ImplicitMixed, ExplicitMixed, Types, no_type, type_and, Fields, no_field, field_and, parts, types, fields}

-- a number of at most 64 bits
unfoldable pub number_bytes : ℕ → List ℕ
number_bytes n = to_be_bytes w64 n

-- in two's complement
abbrev pub int_bytes : ℤ → List ℕ
int_bytes n = number_bytes (cast_unsigned w64 n)

abbrev pub truth_bytes : Bool → List ℕ
truth_bytes false = 0 ∷ []
truth_bytes true = 1 ∷ []

abbrev pub text_bytes : List ℕ → List ℕ
text_bytes text = number_bytes (length text) ++ text

abbrev pub all_texts : List (List ℕ) → List ℕ
all_texts [] = []
all_texts (t ∷ ts) = text_bytes t ++ all_texts ts

abbrev pub texts_bytes : List (List ℕ) → List ℕ
texts_bytes ts = number_bytes (length ts) ++ all_texts ts

abbrev pub form_bytes : StringForm → List ℕ
form_bytes (Literal text) = 0 ∷ text_bytes text
form_bytes NonEmpty = 1 ∷ []
form_bytes Plain = 2 ∷ []

abbrev pub key_bytes : Key → List ℕ
key_bytes (IntKey k) = 0 ∷ int_bytes k
key_bytes (TextKey text) = 1 ∷ text_bytes text

-- the number of the kind of a part
abbrev pub kind_of : Part → ℕ
kind_of (Object name ts) = 1
kind_of (Static name) = 2
kind_of (Meeting names) = 3
kind_of AnyObject = 4
kind_of (Template owner name bound) = 5
kind_of (Array key value list non_empty) = 6
kind_of (Shape fs) = 7
kind_of Callable = 8
kind_of (Int least greatest) = 9
kind_of Float = 10
kind_of (Str form) = 11
kind_of ClassString = 12
kind_of (ClassStringOf t) = 12
kind_of False = 13
kind_of True = 14
kind_of Null = 15
kind_of Void = 16
kind_of ImplicitMixed = 17
kind_of ExplicitMixed = 18

abbrev mutual
  -- the fields of a part in order
  pub fields_bytes : Part → List ℕ
  fields_bytes (Object name ts) = text_bytes name ++ (number_bytes (length (types ts)) ++ all_types ts)
  fields_bytes (Static name) = text_bytes name
  fields_bytes (Meeting names) = texts_bytes names
  fields_bytes AnyObject = []
  fields_bytes (Template owner name bound) = text_bytes owner ++ (text_bytes name ++ (number_bytes (length (parts bound)) ++ all_parts bound))
  fields_bytes (Array key value list non_empty) =
      (number_bytes (length (parts key)) ++ all_parts key) ++ ((number_bytes (length (parts value)) ++ all_parts value) ++ (truth_bytes list ++ truth_bytes non_empty))
  fields_bytes (Shape fs) = number_bytes (length (fields fs)) ++ all_fields fs
  fields_bytes Callable = []
  fields_bytes (Int least greatest) = int_bytes least ++ int_bytes greatest
  fields_bytes Float = []
  fields_bytes (Str form) = form_bytes form
  fields_bytes ClassString = 0 ∷ []
  fields_bytes (ClassStringOf t) = 1 ∷ number_bytes (length (parts t)) ++ all_parts t
  fields_bytes False = []
  fields_bytes True = []
  fields_bytes Null = []
  fields_bytes Void = []
  fields_bytes ImplicitMixed = []
  fields_bytes ExplicitMixed = []

  -- the parts of a type, one behind the other
  pub all_parts : PhpType → List ℕ
  all_parts never = []
  all_parts (part_and p t) = (kind_of p ∷ fields_bytes p) ++ all_parts t

  pub all_types : Types → List ℕ
  all_types no_type = []
  all_types (type_and t ts) = (number_bytes (length (parts t)) ++ all_parts t) ++ all_types ts

  pub all_fields : Fields → List ℕ
  all_fields no_field = []
  all_fields (field_and k o t fs) = (key_bytes k ++ (truth_bytes o ++ (number_bytes (length (parts t)) ++ all_parts t))) ++ all_fields fs

-- a part is its kind and its fields, a type the list of its parts
abbrev pub part_bytes : Part → List ℕ
part_bytes p = kind_of p ∷ fields_bytes p

abbrev pub type_bytes : PhpType → List ℕ
type_bytes t = number_bytes (length (parts t)) ++ all_parts t

-- the order of parts: by kind number, and then by the bytes of the fields
abbrev pub part_order : Part → Part → Ordering
part_order p q = slice_cmp nat_cmp (part_bytes p) (part_bytes q)
