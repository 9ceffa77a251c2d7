-- A code of types, by which a proof tells the values of a struct that is seen as a type apart.
use Rattle.std.specs.Prelude.{◌≡◌, ℕ, ℤ, Bool, true, false, ◌==◌, if◌then◌else◌, List, [], ◌∷◌, refl}
use Rattle.std.specs.Coded.{Coded, code_by, coded×, coded_list, coded_ℕ, coded_ℤ}
use Rattle.std.proofs.Common.{ap, ◌∙◌}
use Rattle.stan_model_types.specs.Types.{Literal, NonEmpty, Plain, Key, IntKey, TextKey, PhpType, never, part_and, Part, Object, Static, Meeting, AnyObject, Template, Array, Shape, Callable, Int, Float, Str, ClassString, ClassStringOf, False, True, Null, Void, ImplicitMixed, ExplicitMixed, Types, no_type, type_and, Fields, no_field, field_and}

-- ---- a type as a list of steps, each of which takes what it needs from a stack

-- which constructor, its texts and its numbers
abbrev Step : Type 0
Step = ℕ × (List (List ℕ) × List ℤ)

abbrev step : ℕ → List (List ℕ) → List ℤ → Step
step tag texts numbers = (tag, (texts, numbers))

abbrev bit : Bool → List ℕ
bit true = 1 ∷ []
bit false = []

abbrev mutual
  type_steps : PhpType → List Step → List Step
  type_steps never r = step 0 [] [] ∷ r
  type_steps (part_and p t) r = part_steps p (type_steps t (step 1 [] [] ∷ r))

  part_steps : Part → List Step → List Step
  part_steps (Object name ts) r = types_steps ts (step 2 (name ∷ []) [] ∷ r)
  part_steps (Static name) r = step 3 (name ∷ []) [] ∷ r
  part_steps (Meeting names) r = step 4 names [] ∷ r
  part_steps AnyObject r = step 5 [] [] ∷ r
  part_steps (Template owner name bound) r = type_steps bound (step 6 (owner ∷ name ∷ []) [] ∷ r)
  part_steps (Array key value list non_empty) r = type_steps key (type_steps value (step 7 (bit list ∷ bit non_empty ∷ []) [] ∷ r))
  part_steps (Shape fs) r = fields_steps fs (step 8 [] [] ∷ r)
  part_steps Callable r = step 9 [] [] ∷ r
  part_steps (Int least greatest) r = step 10 [] (least ∷ greatest ∷ []) ∷ r
  part_steps Float r = step 11 [] [] ∷ r
  part_steps (Str (Literal text)) r = step 12 (text ∷ []) [] ∷ r
  part_steps (Str NonEmpty) r = step 13 [] [] ∷ r
  part_steps (Str Plain) r = step 14 [] [] ∷ r
  part_steps ClassString r = step 15 [] [] ∷ r
  part_steps (ClassStringOf t) r = type_steps t (step 16 [] [] ∷ r)
  part_steps False r = step 17 [] [] ∷ r
  part_steps True r = step 18 [] [] ∷ r
  part_steps Null r = step 19 [] [] ∷ r
  part_steps Void r = step 20 [] [] ∷ r
  part_steps ImplicitMixed r = step 21 [] [] ∷ r
  part_steps ExplicitMixed r = step 22 [] [] ∷ r

  types_steps : Types → List Step → List Step
  types_steps no_type r = step 23 [] [] ∷ r
  types_steps (type_and t ts) r = type_steps t (types_steps ts (step 24 [] [] ∷ r))

  fields_steps : Fields → List Step → List Step
  fields_steps no_field r = step 25 [] [] ∷ r
  fields_steps (field_and (IntKey k) o t fs) r = type_steps t (fields_steps fs (step 26 (bit o ∷ []) (k ∷ []) ∷ r))
  fields_steps (field_and (TextKey k) o t fs) r = type_steps t (fields_steps fs (step 27 (bit o ∷ k ∷ []) [] ∷ r))

-- ---- the steps run over a stack

pub data Cell : Type 0 where
  a_type : PhpType → Cell
  a_part : Part → Cell
  some_types : Types → Cell
  some_fields : Fields → Cell

abbrev first : List (List ℕ) → List ℕ
first [] = []
first (t ∷ ts) = t

abbrev second : List (List ℕ) → List ℕ
second [] = []
second (t ∷ ts) = first ts

abbrev is_set : List ℕ → Bool
is_set [] = false
is_set (b ∷ bs) = true

abbrev put_int : List ℤ → List Cell → List Cell
put_int (a ∷ b ∷ ns) s = a_part (Int a b) ∷ s
put_int (a ∷ []) s = s
put_int [] s = s

abbrev and_part : List Cell → List Cell
and_part (a_type t ∷ a_part p ∷ s) = a_type (part_and p t) ∷ s
and_part s = s

abbrev put_object : List ℕ → List Cell → List Cell
put_object name (some_types ts ∷ s) = a_part (Object name ts) ∷ s
put_object name s = s

abbrev put_template : List ℕ → List ℕ → List Cell → List Cell
put_template owner name (a_type t ∷ s) = a_part (Template owner name t) ∷ s
put_template owner name s = s

abbrev put_array : Bool → Bool → List Cell → List Cell
put_array list non_empty (a_type value ∷ a_type key ∷ s) = a_part (Array key value list non_empty) ∷ s
put_array list non_empty s = s

abbrev put_shape : List Cell → List Cell
put_shape (some_fields fs ∷ s) = a_part (Shape fs) ∷ s
put_shape s = s

abbrev put_class_string : List Cell → List Cell
put_class_string (a_type t ∷ s) = a_part (ClassStringOf t) ∷ s
put_class_string s = s

abbrev and_type : List Cell → List Cell
and_type (some_types ts ∷ a_type t ∷ s) = some_types (type_and t ts) ∷ s
and_type s = s

abbrev and_field : Key → Bool → List Cell → List Cell
and_field k o (some_fields fs ∷ a_type t ∷ s) = some_fields (field_and k o t fs) ∷ s
and_field k o s = s

abbrev and_int_field : Bool → List ℤ → List Cell → List Cell
and_int_field o [] s = s
and_int_field o (k ∷ ks) s = and_field (IntKey k) o s

-- the parts that hold no type
abbrev run_plain : ℕ → List (List ℕ) → List ℤ → List Cell → List Cell
run_plain tag texts numbers s =
    if tag == 3 then a_part (Static (first texts)) ∷ s else (
    if tag == 4 then a_part (Meeting texts) ∷ s else (
    if tag == 5 then a_part AnyObject ∷ s else (
    if tag == 9 then a_part Callable ∷ s else (
    if tag == 10 then put_int numbers s else (
    if tag == 11 then a_part Float ∷ s else (
    if tag == 12 then a_part (Str (Literal (first texts))) ∷ s else (
    if tag == 13 then a_part (Str NonEmpty) ∷ s else (
    if tag == 14 then a_part (Str Plain) ∷ s else (
    if tag == 15 then a_part ClassString ∷ s else (
    if tag == 17 then a_part False ∷ s else (
    if tag == 18 then a_part True ∷ s else (
    if tag == 19 then a_part Null ∷ s else (
    if tag == 20 then a_part Void ∷ s else (
    if tag == 21 then a_part ImplicitMixed ∷ s else a_part ExplicitMixed ∷ s))))))))))))))

abbrev run_step : ℕ → List (List ℕ) → List ℤ → List Cell → List Cell
run_step tag texts numbers s =
    if tag == 0 then a_type never ∷ s else (
    if tag == 1 then and_part s else (
    if tag == 2 then put_object (first texts) s else (
    if tag == 6 then put_template (first texts) (second texts) s else (
    if tag == 7 then put_array (is_set (first texts)) (is_set (second texts)) s else (
    if tag == 8 then put_shape s else (
    if tag == 16 then put_class_string s else (
    if tag == 23 then some_types no_type ∷ s else (
    if tag == 24 then and_type s else (
    if tag == 25 then some_fields no_field ∷ s else (
    if tag == 26 then and_int_field (is_set (first texts)) numbers s else (
    if tag == 27 then and_field (TextKey (second texts)) (is_set (first texts)) s else run_plain tag texts numbers s)))))))))))

abbrev run : List Step → List Cell → List Cell
run [] s = s
run (x ∷ xs) s = run xs (run_step x.0 x.1.0 x.1.1 s)

abbrev top : List Cell → PhpType
top (a_type t ∷ s) = t
top _ = never

abbrev to_steps : PhpType → List Step
to_steps t = type_steps t []

abbrev from_steps : List Step → PhpType
from_steps steps = top (run steps [])

-- ---- the steps give the type back

is_set-bit : (b : Bool) → is_set (bit b) ≡ b
is_set-bit true = refl
is_set-bit false = refl

mutual
  run-type : (t : PhpType) (r : List Step) (s : List Cell) → run (type_steps t r) s ≡ run r (a_type t ∷ s)
  run-type never r s = refl
  run-type (part_and p t) r s = run-part p (type_steps t (step 1 [] [] ∷ r)) s ∙ run-type t (step 1 [] [] ∷ r) (a_part p ∷ s)

  run-part : (p : Part) (r : List Step) (s : List Cell) → run (part_steps p r) s ≡ run r (a_part p ∷ s)
  run-part (Object name ts) r s = run-types ts (step 2 (name ∷ []) [] ∷ r) s
  run-part (Static name) r s = refl
  run-part (Meeting names) r s = refl
  run-part AnyObject r s = refl
  run-part (Template owner name bound) r s = run-type bound (step 6 (owner ∷ name ∷ []) [] ∷ r) s
  run-part (Array key value list non_empty) r s =
      run-type key (type_steps value (step 7 (bit list ∷ bit non_empty ∷ []) [] ∷ r)) s
      ∙ run-type value (step 7 (bit list ∷ bit non_empty ∷ []) [] ∷ r) (a_type key ∷ s)
      ∙ ap (λ b. run r (a_part (Array key value b (is_set (bit non_empty))) ∷ s)) (is_set-bit list)
      ∙ ap (λ b. run r (a_part (Array key value list b) ∷ s)) (is_set-bit non_empty)
  run-part (Shape fs) r s = run-fields fs (step 8 [] [] ∷ r) s
  run-part Callable r s = refl
  run-part (Int least greatest) r s = refl
  run-part Float r s = refl
  run-part (Str (Literal text)) r s = refl
  run-part (Str NonEmpty) r s = refl
  run-part (Str Plain) r s = refl
  run-part ClassString r s = refl
  run-part (ClassStringOf t) r s = run-type t (step 16 [] [] ∷ r) s
  run-part False r s = refl
  run-part True r s = refl
  run-part Null r s = refl
  run-part Void r s = refl
  run-part ImplicitMixed r s = refl
  run-part ExplicitMixed r s = refl

  run-types : (ts : Types) (r : List Step) (s : List Cell) → run (types_steps ts r) s ≡ run r (some_types ts ∷ s)
  run-types no_type r s = refl
  run-types (type_and t ts) r s = run-type t (types_steps ts (step 24 [] [] ∷ r)) s ∙ run-types ts (step 24 [] [] ∷ r) (a_type t ∷ s)

  run-fields : (fs : Fields) (r : List Step) (s : List Cell) → run (fields_steps fs r) s ≡ run r (some_fields fs ∷ s)
  run-fields no_field r s = refl
  run-fields (field_and (IntKey k) o t fs) r s =
      run-type t (fields_steps fs (step 26 (bit o ∷ []) (k ∷ []) ∷ r)) s
      ∙ run-fields fs (step 26 (bit o ∷ []) (k ∷ []) ∷ r) (a_type t ∷ s)
      ∙ ap (λ b. run r (some_fields (field_and (IntKey k) b t fs) ∷ s)) (is_set-bit o)
  run-fields (field_and (TextKey k) o t fs) r s =
      run-type t (fields_steps fs (step 27 (bit o ∷ k ∷ []) [] ∷ r)) s
      ∙ run-fields fs (step 27 (bit o ∷ k ∷ []) [] ∷ r) (a_type t ∷ s)
      ∙ ap (λ b. run r (some_fields (field_and (TextKey k) b t fs) ∷ s)) (is_set-bit o)

pub from_steps-to_steps : (t : PhpType) → from_steps (to_steps t) ≡ t
from_steps-to_steps t = ap top (run-type t [] [])

abbrev pub type_code : Coded PhpType
type_code = code_by (List Step) (coded_list (coded× coded_ℕ (coded× (coded_list (coded_list coded_ℕ)) (coded_list coded_ℤ)))) to_steps from_steps from_steps-to_steps
