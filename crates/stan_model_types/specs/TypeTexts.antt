-- The text of a type, as messages show it.
use Rattle.std.specs.Prelude.{ℕ, ℤ, Bool, true, false, not, ◌&&◌, if◌then◌else◌, List, [], ◌∷◌, ◌++◌, codes}
use Rattle.std.specs.Fmt.{signed_decimal}
use Rattle.std.specs.Ordering.{int_eq}
use Rattle.std.specs.Str.Lossy.{utf8_lossy}
use Rattle.stan_model_types.specs.Types.{StringForm, Literal, NonEmpty, Plain, Key, IntKey, TextKey, PhpType, never, part_and, Part, Object, Static, Meeting, AnyObject, Template, Array, Shape, Callable, Int, Float, Str, ClassString, ClassStringOf, False, True, Null, Void, ImplicitMixed, ExplicitMixed, Types, no_type, type_and, Fields, no_field, field_and}
use Rattle.stan_model_types.specs.TypeFilters.{least_int, greatest_int}

-- bytes that aren't UTF-8 are replaced
abbrev pub shown : List ℕ → List ℕ
shown text = utf8_lossy text

-- names with a mark between them
abbrev pub more_names : List (List ℕ) → List ℕ
more_names [] = []
more_names (name ∷ names) = codes "&" ++ (shown name ++ more_names names)

abbrev pub meeting_text : List (List ℕ) → List ℕ
meeting_text [] = []
meeting_text (name ∷ names) = shown name ++ more_names names

abbrev pub form_text : StringForm → List ℕ
form_text (Literal text) = codes "'" ++ (shown text ++ codes "'")
form_text NonEmpty = codes "non-empty-string"
form_text Plain = codes "string"

abbrev pub least_text : ℤ → List ℕ
least_text n = if int_eq n least_int then codes "min" else signed_decimal n

abbrev pub greatest_text : ℤ → List ℕ
greatest_text n = if int_eq n greatest_int then codes "max" else signed_decimal n

-- one number, all, or a range
abbrev pub int_text : ℤ → ℤ → List ℕ
int_text least greatest =
    if int_eq least greatest then signed_decimal least
    else (if int_eq least least_int && int_eq greatest greatest_int then codes "int"
    else codes "int<" ++ (least_text least ++ (codes ", " ++ (greatest_text greatest ++ codes ">"))))

abbrev pub key_text : Key → List ℕ
key_text (IntKey k) = signed_decimal k
key_text (TextKey text) = shown text

abbrev pub optional_text : Bool → List ℕ
optional_text true = codes "?: "
optional_text false = codes ": "

abbrev pub array_word : Bool → Bool → List ℕ
array_word false false = codes "array<"
array_word true false = codes "list<"
array_word false true = codes "non-empty-array<"
array_word true true = codes "non-empty-list<"

abbrev pub is_all_ints : Part → Bool
is_all_ints (Int least greatest) = int_eq least least_int && int_eq greatest greatest_int
is_all_ints _ = false

abbrev pub is_all_strings : Part → Bool
is_all_strings (Str Plain) = true
is_all_strings _ = false

abbrev pub is_only : (Part → Bool) → PhpType → Bool
is_only test never = false
is_only test (part_and p never) = test p
is_only test (part_and p (part_and q t)) = false

-- `int|string`
abbrev pub is_any_key : PhpType → Bool
is_any_key never = false
is_any_key (part_and p t) = is_all_ints p && is_only is_all_strings t

abbrev pub is_implicit : Part → Bool
is_implicit ImplicitMixed = true
is_implicit _ = false

-- an array of which nothing is said
abbrev pub is_any_array : PhpType → PhpType → Bool → Bool → Bool
is_any_array key value list non_empty = not list && (not non_empty && (is_any_key key && is_only is_implicit value))

abbrev pub is_false : Part → Bool
is_false False = true
is_false _ = false

abbrev pub is_true : Part → Bool
is_true True = true
is_true _ = false

abbrev pub begins_true : PhpType → Bool
begins_true never = false
begins_true (part_and p t) = is_true p

-- what stands before a part that isn't the first
abbrev pub bar : Bool → List ℕ
bar true = []
bar false = codes "|"

-- a part among others: whether it is the first, whether `false` stands before it and `true` behind it, and its own text
abbrev pub piece : Bool → Bool → Bool → Part → List ℕ → List ℕ
piece first before behind p text =
    if is_false p && behind then bar first ++ codes "bool"
    else (if is_true p && before then [] else bar first ++ text)

-- the texts of parts are joined by `|`; `false` and `true` together are `bool`
abbrev mutual
  -- the parts behind others; the truth value says whether `false` stands before
  pub more_parts : PhpType → Bool → List ℕ
  more_parts never before = []
  more_parts (part_and p t) before = piece false before (begins_true t) p (part_text p) ++ more_parts t (is_false p)

  pub type_text : PhpType → List ℕ
  type_text never = codes "never"
  type_text (part_and p t) = piece true false (begins_true t) p (part_text p) ++ more_parts t (is_false p)

  pub part_text : Part → List ℕ
  part_text (Object name no_type) = shown name
  part_text (Object name (type_and t ts)) = shown name ++ (codes "<" ++ (type_text t ++ (more_types ts ++ codes ">")))
  part_text (Static name) = codes "static(" ++ (shown name ++ codes ")")
  part_text (Meeting names) = meeting_text names
  part_text AnyObject = codes "object"
  part_text (Template owner name bound) = shown name
  part_text (Array key value list non_empty) =
      if is_any_array key value list non_empty then codes "array"
      else array_word list non_empty ++ ((if list then [] else type_text key ++ codes ", ") ++ (type_text value ++ codes ">"))
  part_text (Shape no_field) = codes "array{}"
  part_text (Shape (field_and k o t fs)) = codes "array{" ++ ((key_text k ++ (optional_text o ++ type_text t)) ++ (more_fields fs ++ codes "}"))
  part_text Callable = codes "callable"
  part_text (Int least greatest) = int_text least greatest
  part_text Float = codes "float"
  part_text (Str form) = form_text form
  part_text ClassString = codes "class-string"
  part_text (ClassStringOf t) = codes "class-string<" ++ (type_text t ++ codes ">")
  part_text False = codes "false"
  part_text True = codes "true"
  part_text Null = codes "null"
  part_text Void = codes "void"
  part_text ImplicitMixed = codes "mixed"
  part_text ExplicitMixed = codes "mixed"

  pub more_types : Types → List ℕ
  more_types no_type = []
  more_types (type_and t ts) = codes ", " ++ (type_text t ++ more_types ts)

  pub more_fields : Fields → List ℕ
  more_fields no_field = []
  more_fields (field_and k o t fs) = codes ", " ++ ((key_text k ++ (optional_text o ++ type_text t)) ++ more_fields fs)
