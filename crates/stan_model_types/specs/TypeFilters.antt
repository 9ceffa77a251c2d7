-- What of a type a test keeps, and what it takes away.
use Rattle.std.specs.Prelude.{ℕ, ℤ, pos, negsuc, ◌+ℤ◌, ◌-ℤ◌, int_le, Bool, true, false, not, ◌&&◌, ◌||◌, if◌then◌else◌, List, [], ◌∷◌, ◌++◌, filter, map, codes}
use Rattle.std.specs.List.{flat_map}
use Rattle.std.specs.Ordering.{int_eq}
use Rattle.std.specs.Str.{bytes_eq}
use Rattle.stan_base.specs.Bytes.{fold_case}
use Rattle.stan_model_types.specs.Types.{StringForm, Literal, NonEmpty, Plain, PhpType, never, part_and, Part, Object, AnyObject, Template, Array, Shape, Callable, Int, Float, Str, ClassString, ClassStringOf, False, True, Null, Void, ImplicitMixed, ExplicitMixed, no_field, parts, of_parts}
use Rattle.stan_model_types.specs.TypeLimits.{implicit_mixed}
use Rattle.stan_model_types.specs.NormalForms.{is_of, is_literal_text, has_required, normal}

-- what a test asks: a kind of values, whether they count as true, or one value
pub data Filter : Type 0 where
  Nulls : Filter
  Bools : Filter
  Ints : Filter
  Floats : Filter
  Strings : Filter
  Arrays : Filter
  Objects : Filter
  Callables : Filter
  Truthy : Filter
  Falsy : Filter
  Only : Part → Filter

-- ---- the widest parts

abbrev pub least_int : ℤ
least_int = negsuc 9223372036854775807

abbrev pub greatest_int : ℤ
greatest_int = pos 9223372036854775807

-- `int|string`
abbrev pub array_key : PhpType
array_key = of_parts (Int least_int greatest_int ∷ Str Plain ∷ [])

-- the widest type that a test lets through
abbrev pub widest : Filter → List Part
widest Nulls = Null ∷ []
widest Bools = False ∷ True ∷ []
widest Ints = Int least_int greatest_int ∷ []
widest Floats = Float ∷ []
widest Strings = Str Plain ∷ []
widest Arrays = Array array_key implicit_mixed false false ∷ []
widest Objects = AnyObject ∷ []
widest Callables = Callable ∷ []
widest Truthy = []
widest Falsy = []
widest (Only literal) = literal ∷ []

-- ---- one value

-- an int of one value, a literal string, `false`, `true` and `null` stand for one value
abbrev pub is_value : Part → Bool
is_value (Int least greatest) = int_eq least greatest
is_value (Str (Literal text)) = is_literal_text text
is_value False = true
is_value True = true
is_value Null = true
is_value _ = false

-- the test of another part narrows nothing
abbrev pub narrows : Filter → Bool
narrows (Only part) = is_value part
narrows _ = true

abbrev pub is_empty : List ℕ → Bool
is_empty [] = true
is_empty (b ∷ bs) = false

abbrev pub form_holds : List ℕ → StringForm → Bool
form_holds text (Literal other) = bytes_eq text other
form_holds text NonEmpty = not (is_empty text)
form_holds text Plain = true

abbrev pub holds_text : List ℕ → Part → Bool
holds_text text (Str form) = form_holds text form
holds_text text ClassString = not (is_empty text)
holds_text text (ClassStringOf t) = not (is_empty text)
holds_text text _ = false

abbrev pub holds_int : ℤ → Part → Bool
holds_int n (Int least greatest) = int_le least n && int_le n greatest
holds_int n _ = false

-- whether a part other than `mixed`, a template and `callable` holds the value
abbrev pub holds_value : Part → Part → Bool
holds_value (Int n greatest) p = holds_int n p
holds_value (Str (Literal text)) p = holds_text text p
holds_value False p = is_of 13 13 p
holds_value True p = is_of 14 14 p
holds_value Null p = is_of 15 15 p
holds_value _ p = false

-- an int part without one of its ends
abbrev pub without_int : ℤ → ℤ → ℤ → List Part
without_int n least greatest =
    if int_eq n least then (if int_eq least greatest then [] else Int (least +ℤ pos 1) greatest ∷ [])
    else (if int_eq n greatest then Int least (greatest -ℤ pos 1) ∷ [] else Int least greatest ∷ [])

abbrev pub is_text : List ℕ → Part → Bool
is_text text (Str (Literal other)) = bytes_eq text other
is_text text _ = false

-- a part without the value: an equal part, or an end of an int part
abbrev pub without_value : Part → Part → List Part
without_value (Int n other) (Int least greatest) = without_int n least greatest
without_value (Str (Literal text)) p = if is_text text p then [] else p ∷ []
without_value False p = if is_of 13 13 p then [] else p ∷ []
without_value True p = if is_of 14 14 p then [] else p ∷ []
without_value Null p = if is_of 15 15 p then [] else p ∷ []
without_value _ p = p ∷ []

-- ---- what counts as false

pub data FalseValue : Type 0 where
  EmptyArray : FalseValue
  Zero : FalseValue
  EmptyText : FalseValue
  ZeroText : FalseValue
  FalseItself : FalseValue
  NullItself : FalseValue

abbrev pub false_part : FalseValue → Part
false_part EmptyArray = Shape no_field
false_part Zero = Int (pos 0) (pos 0)
false_part EmptyText = Str (Literal [])
false_part ZeroText = Str (Literal (codes "0"))
false_part FalseItself = False
false_part NullItself = Null

abbrev pub false_values : List FalseValue
false_values = EmptyArray ∷ Zero ∷ EmptyText ∷ ZeroText ∷ FalseItself ∷ NullItself ∷ []

abbrev pub may_be_empty : Part → Bool
may_be_empty (Array key value list non_empty) = not non_empty
may_be_empty (Shape fs) = not (has_required fs)
may_be_empty Callable = true
may_be_empty _ = false

abbrev pub may_be_text : List ℕ → Part → Bool
may_be_text text Callable = true
may_be_text text p = holds_text text p

abbrev pub may_be_null : Part → Bool
may_be_null Null = true
may_be_null Void = true
may_be_null _ = false

-- whether a part that is no template may be this value
abbrev pub may_be : FalseValue → Part → Bool
may_be EmptyArray p = may_be_empty p
may_be Zero p = holds_int (pos 0) p
may_be EmptyText p = may_be_text [] p
may_be ZeroText p = may_be_text (codes "0") p
may_be FalseItself p = is_of 13 13 p
may_be NullItself p = may_be_null p

-- a template by its bound
abbrev mutual
  pub may_hold : FalseValue → Part → Bool
  may_hold v (Template owner name bound) = may_hold_some v bound
  may_hold v ImplicitMixed = true
  may_hold v ExplicitMixed = true
  may_hold v p = may_be v p

  pub may_hold_some : FalseValue → PhpType → Bool
  may_hold_some v never = false
  may_hold_some v (part_and p t) = may_hold v p || may_hold_some v t

abbrev mutual
  pub has_float : Part → Bool
  has_float (Template owner name bound) = has_some_float bound
  has_float Float = true
  has_float _ = false

  pub has_some_float : PhpType → Bool
  has_some_float never = false
  has_some_float (part_and p t) = has_float p || has_some_float t

-- the values of a part that count as false, and `float` where it has that part
abbrev pub false_parts : Part → List Part
false_parts p = map false_part (filter (λ v. may_hold v p) false_values) ++ (if has_float p then Float ∷ [] else [])

abbrev pub falsy_kept : Part → List Part
falsy_kept ImplicitMixed = ImplicitMixed ∷ []
falsy_kept ExplicitMixed = ExplicitMixed ∷ []
falsy_kept p = false_parts p

abbrev pub without_false_text : List ℕ → List Part
without_false_text text = if is_empty text || bytes_eq text (codes "0") then [] else Str (Literal text) ∷ []

abbrev pub without_zero : ℤ → ℤ → List Part
without_zero least greatest = if int_eq least (pos 0) && int_eq greatest (pos 0) then [] else Int least greatest ∷ []

-- a part without what counts as false
abbrev pub truthy_kept : Part → List Part
truthy_kept (Array key value list non_empty) = Array key value list true ∷ []
truthy_kept (Shape no_field) = []
truthy_kept (Int least greatest) = without_zero least greatest
truthy_kept (Str (Literal text)) = without_false_text text
truthy_kept (Str Plain) = Str NonEmpty ∷ []
truthy_kept False = []
truthy_kept Null = []
truthy_kept p = p ∷ []

-- ---- keep

abbrev pub is_literal_string : Part → Bool
is_literal_string (Str (Literal text)) = true
is_literal_string _ = false

-- whether a callable may be of the kind
abbrev pub takes_callable : Filter → Bool
takes_callable Strings = true
takes_callable Arrays = true
takes_callable Objects = true
takes_callable Callables = true
takes_callable (Only value) = is_literal_string value
takes_callable _ = false

-- whether a part other than `mixed`, a template and `callable` is of the kind; a test for what may be called takes objects, arrays and strings
abbrev pub is_kind : Filter → Part → Bool
is_kind Nulls p = is_of 15 15 p
is_kind Bools p = is_of 13 14 p
is_kind Ints p = is_of 9 9 p
is_kind Floats p = is_of 10 10 p
is_kind Strings p = is_of 11 12 p
is_kind Arrays p = is_of 6 7 p
is_kind Objects p = is_of 1 4 p
is_kind Callables p = is_of 1 4 p || (is_of 6 7 p || is_of 11 12 p)
is_kind Truthy p = false
is_kind Falsy p = false
is_kind (Only value) p = holds_value value p

-- such a part, cut to the value of the test
abbrev pub cut : Filter → Part → List Part
cut (Only value) p = value ∷ []
cut _ p = p ∷ []

-- of a part that is no template
abbrev pub plain_kept : Filter → Part → List Part
plain_kept f ImplicitMixed = widest f
plain_kept f ExplicitMixed = widest f
plain_kept f Callable = if takes_callable f then widest f else []
plain_kept f p = if is_kind f p then cut f p else []

abbrev pub keeps_plain : Filter → Part → Bool
keeps_plain f ImplicitMixed = true
keeps_plain f ExplicitMixed = true
keeps_plain f Callable = takes_callable f
keeps_plain f p = is_kind f p

-- whether something is kept; a template by its bound
abbrev mutual
  pub keeps : Filter → Part → Bool
  keeps f (Template owner name bound) = keeps_some f bound
  keeps f p = keeps_plain f p

  pub keeps_some : Filter → PhpType → Bool
  keeps_some f never = false
  keeps_some f (part_and p t) = keeps f p || keeps_some f t

-- a template is an object part, and under the other tests what `mixed` is, where its bound keeps something
abbrev pub template_kept : Filter → Part → PhpType → List Part
template_kept Objects p bound = p ∷ []
template_kept f p bound = if keeps_some f bound then widest f else []

-- what a test keeps of a part
abbrev pub kind_kept : Filter → Part → List Part
kind_kept f (Template owner name bound) = template_kept f (Template owner name bound) bound
kind_kept f p = plain_kept f p

abbrev pub kept : Filter → Part → List Part
kept Truthy p = truthy_kept p
kept Falsy p = falsy_kept p
kept f p = kind_kept f p

-- ---- without

abbrev pub is_closure : Part → Bool
is_closure (Object name arguments) = bytes_eq (fold_case name) (codes "closure")
is_closure _ = false

-- by kind number; of what may be called, `callable` and closures
abbrev pub is_taken : Filter → Part → Bool
is_taken Objects p = is_of 1 5 p
is_taken Callables p = is_of 8 8 p || is_closure p
is_taken f p = is_kind f p

-- what is left of a part
abbrev pub left : Filter → Part → List Part
left Truthy p = falsy_kept p
left Falsy p = truthy_kept p
left (Only value) p = without_value value p
left f p = if is_taken f p then [] else p ∷ []

-- ---- whole types

abbrev pub keep : Filter → PhpType → PhpType
keep f t = if narrows f then normal (flat_map (kept f) (parts t)) else t

abbrev pub without : Filter → PhpType → PhpType
without f t = if narrows f then normal (flat_map (left f) (parts t)) else t
