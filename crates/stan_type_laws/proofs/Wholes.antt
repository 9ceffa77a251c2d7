-- What stands in a normal form: parts that are alone what they are, of the kinds of their pieces.
use Rattle.std.proofs.Common.{◌≡◌, ℕ, ◌<◌, Bool, true, false, cond, List, [], ◌∷◌, ◌++◌, length, refl, ap, sym, subst, inl, inr, arith}
use Rattle.std.specs.Prelude.{◌⊎◌, ◌||◌, ℤ, int_lt, filter, nat_lt, Option, None, Some}
use Rattle.std.specs.List.{flat_map, list_any}
use Rattle.std.specs.Ordering.{nat_cmp}
use Rattle.std.specs.Cmp.Lexicographic.{slice_cmp}
use Rattle.std.proofs.lemmas.Bool.Decides.{nat_tests}
use Rattle.std.proofs.lemmas.Cmp.{nat_list_cmp_total}
use Rattle.stan_model_types.specs.Types.{PhpType, Part, Meeting, Array, Shape, Int, Str, Literal, NonEmpty, Plain, Fields, of_parts}
use Rattle.stan_model_types.specs.NormalForms.{Table, are_keys, array_parts, few_literals, few_ranges, free_literals, int_parts, is_free_literal, is_literal_text, is_non_empty, is_of, is_plain, join_all, joined_tables, key_types, meeting_of, mended, of_kinds, ordered_names, put_ints, range_part, settled_parts, string_parts, table_part, table_parts, tables_of, value_types}
use Rattle.stan_type_laws.specs.Members.{In}
use Rattle.stan_type_laws.specs.Settled.{IsWhole}
use Rattle.stan_type_laws.proofs.Sorting.{from_filter, in_both, ordered_rises, ordered_same}
use Rattle.stan_type_laws.proofs.Ranges.{from_map}
use Rattle.stan_type_laws.proofs.Rising.{few_rise, ints_rise, rise_valid, AreValid}

-- ---- parts alone

names_again : (names : List (List ℕ)) → ordered_names (ordered_names names) ≡ ordered_names names
names_again names = ordered_same (slice_cmp nat_cmp) nat_list_cmp_total (ordered_names names) (ordered_names names) (ordered_rises (slice_cmp nat_cmp) nat_list_cmp_total names) (λ z h. h) (λ z h. h)

meeting_whole : (names : List (List ℕ)) → ordered_names names ≡ names → IsWhole (meeting_of names)
meeting_whole [] e = λ make. refl
meeting_whole (a ∷ []) e = λ make. refl
meeting_whole (a ∷ b ∷ names) e = λ make. ap (λ ns. meeting_of ns ∷ []) e

shape_whole : (make : List Part → PhpType) (fs : Fields) (b : Bool) → are_keys fs ≡ b → IsWhole (cond b (Shape fs) (Array (join_all make (key_types make fs)) (join_all make (value_types fs)) false false))
shape_whole make fs true e = λ other. ap (λ b. cond b (Shape fs) (Array (join_all other (key_types other fs)) (join_all other (value_types fs)) false false) ∷ []) e
shape_whole make fs false e = λ other. refl

form_whole : (text : List ℕ) (b : Bool) → is_literal_text text ≡ b → IsWhole (Str (cond b (Literal text) NonEmpty))
form_whole text true e = λ make. ap (λ b. Str (cond b (Literal text) NonEmpty) ∷ []) e
form_whole text false e = λ make. refl

pub range_whole : (l g : ℤ) → int_lt g l ≡ false → IsWhole (Int l g)
range_whole l g e = λ make. ap (λ b. cond b [] (Int l g ∷ [])) e

range_alone : (l g : ℤ) (p : Part) (b : Bool) → int_lt g l ≡ b → In p (cond b [] (Int l g ∷ [])) → IsWhole p
range_alone l g p true e h = absurd h
range_alone l g p false e (inl s) = subst IsWhole (sym s) (range_whole l g e)
range_alone l g p false e (inr k) = absurd k

mended_whole : (make : List Part → PhpType) (q p : Part) → In p (mended make q) → IsWhole p
mended_whole make (Int l g) p h = range_alone l g p (int_lt g l) refl h
mended_whole make q p (inr k) = absurd k
mended_whole make (Meeting names) p (inl s) = subst IsWhole (sym s) (meeting_whole (ordered_names names) (names_again names))
mended_whole make (Shape fs) p (inl s) = subst IsWhole (sym s) (shape_whole make fs (are_keys fs) refl)
mended_whole make (Str (Literal text)) p (inl s) = subst IsWhole (sym s) (form_whole text (is_literal_text text) refl)
mended_whole make (Str NonEmpty) p (inl s) = subst IsWhole (sym s) (λ other. refl)
mended_whole make (Str Plain) p (inl s) = subst IsWhole (sym s) (λ other. refl)
mended_whole make q p (inl s) = subst IsWhole (sym s) (λ other. refl)

pub flat_whole : (make : List Part → PhpType) (qs : List Part) (p : Part) → In p (flat_map (mended make) qs) → IsWhole p
flat_whole make [] p h = absurd h
flat_whole make (q ∷ qs) p h = elim (in_both p (mended make q) (flat_map (mended make) qs) h) [ inl a ↦ mended_whole make q p a | inr b ↦ flat_whole make qs p b ]

valid_at : (l g : ℤ) (b : Bool) → cond b [] (Int l g ∷ []) ≡ Int l g ∷ [] → b ≡ false
valid_at l g true e = cc
valid_at l g false e = refl

pub whole_valid : (make : List Part → PhpType) (l g : ℤ) → IsWhole (Int l g) → int_lt g l ≡ false
whole_valid make l g w = valid_at l g (int_lt g l) (w make)

-- ---- the pieces of a normal form

pub data Found (make : List Part → PhpType) (ps : List Part) (z : Part) : Type 0 where
  objects : In z (of_kinds 1 5 ps) → Found make ps z
  arrays : In z (array_parts make ps) → Found make ps z
  callables : In z (of_kinds 8 8 ps) → Found make ps z
  numbers : In z (int_parts ps) → Found make ps z
  floats : In z (of_kinds 10 10 ps) → Found make ps z
  texts : In z (string_parts ps) → Found make ps z
  others : In z (of_kinds 12 16 ps) → Found make ps z

pub find : (make : List Part → PhpType) (ps : List Part) (z : Part) → In z (settled_parts make ps) → Found make ps z
find make ps z h =
    elim (in_both z (of_kinds 1 5 ps) (array_parts make ps ++ (of_kinds 8 8 ps ++ (int_parts ps ++ (of_kinds 10 10 ps ++ (string_parts ps ++ of_kinds 12 16 ps))))) h) [
      | inl a ↦ objects a
      | inr h1 ↦ elim (in_both z (array_parts make ps) (of_kinds 8 8 ps ++ (int_parts ps ++ (of_kinds 10 10 ps ++ (string_parts ps ++ of_kinds 12 16 ps)))) h1) [
        | inl b ↦ arrays b
        | inr h2 ↦ elim (in_both z (of_kinds 8 8 ps) (int_parts ps ++ (of_kinds 10 10 ps ++ (string_parts ps ++ of_kinds 12 16 ps))) h2) [
          | inl c ↦ callables c
          | inr h3 ↦ elim (in_both z (int_parts ps) (of_kinds 10 10 ps ++ (string_parts ps ++ of_kinds 12 16 ps)) h3) [
            | inl d ↦ numbers d
            | inr h4 ↦ elim (in_both z (of_kinds 10 10 ps) (string_parts ps ++ of_kinds 12 16 ps) h4) [
              | inl e ↦ floats e
              | inr h5 ↦ elim (in_both z (string_parts ps) (of_kinds 12 16 ps) h5) [ inl f ↦ texts f | inr g ↦ others g ]
            ]
          ]
        ]
      ]
    ]

table_in : (make : List Part → PhpType) (found : Option Table) (z : Part) → In z (table_parts make found) → (a : Table) × (z ≡ table_part a)
table_in make None z h = absurd h
table_in make (Some a) z (inl e) = (a, e)
table_in make (Some a) z (inr h) = absurd h

-- a part is alone what it is, and of a kind
abbrev pub WholeOf : ℕ → ℕ → Part → Type 0
WholeOf a b z = IsWhole z × (is_of a b z ≡ true)

pub array_cases : (make : List Part → PhpType) (ps : List Part) (z : Part) (b : Bool) → ((p : Part) → In p ps → IsWhole p)
    → In z (cond b (table_parts make (joined_tables make None (flat_map (tables_of make) ps))) (of_kinds 6 7 ps)) → WholeOf 6 7 z
array_cases make ps z true w h = let found = table_in make (joined_tables make None (flat_map (tables_of make) ps)) z h in subst (WholeOf 6 7) (sym found.1) ((λ other. refl), refl)
array_cases make ps z false w h = let k = from_filter (is_of 6 7) z ps h in (w z k.0, k.1)

literal_cases : (ps : List Part) (z : Part) (b : Bool) → In z (cond b (Str Plain ∷ []) (free_literals ps)) → ((z ≡ Str Plain) × (b ≡ true)) ⊎ (In z (free_literals ps) × (b ≡ false))
literal_cases ps z true (inl e) = inl (e, refl)
literal_cases ps z true (inr h) = absurd h
literal_cases ps z false h = inr (h, refl)

-- a text piece holds all strings where there are too many literals, else a literal of the parts, or another form of theirs
abbrev pub TextFound : List Part → Part → Type 0
TextFound ps z =
    ((z ≡ Str Plain) × (nat_lt 32 (length (free_literals ps)) ≡ true)) ⊎ ((In z (free_literals ps) × (nat_lt 32 (length (free_literals ps)) ≡ false)) ⊎ (In z ps × ((is_plain z || is_non_empty z) ≡ true)))

pub from_texts : (ps : List Part) (z : Part) → In z (string_parts ps)
    → TextFound ps z
from_texts ps z h =
    elim (in_both z (few_literals (free_literals ps)) (filter (λ p. is_plain p || is_non_empty p) ps) h) [
      | inl a ↦ elim (literal_cases ps z (nat_lt 32 (length (free_literals ps))) a) [ inl e ↦ inl e | inr k ↦ inr (inl k) ]
      | inr b ↦ inr (inr (from_filter (λ p. is_plain p || is_non_empty p) z ps b))
    ]

free_text : (a b : Bool) (z : Part) → is_free_literal a b z ≡ true → is_of 11 11 z ≡ true
free_text a b (Str form) e = refl
free_text a b z e = e

form_text : (z : Part) → (is_plain z || is_non_empty z) ≡ true → is_of 11 11 z ≡ true
form_text (Str form) e = refl
form_text z e = e

pub text_whole : (ps : List Part) (z : Part) → ((p : Part) → In p ps → IsWhole p) → In z (string_parts ps) → WholeOf 11 11 z
text_whole ps z w h =
    elim (from_texts ps z h) [
      | inl e ↦ subst (WholeOf 11 11) (sym e.0) ((λ make. refl), refl)
      | inr k ↦ elim k [
        | inl a ↦ let found = from_filter (is_free_literal (list_any is_plain ps) (list_any is_non_empty ps)) z ps a.0 in (w z found.0, free_text (list_any is_plain ps) (list_any is_non_empty ps) z found.1)
        | inr b ↦ (w z b.0, form_text z b.1)
      ]
    ]

pub wholes_valid : (ps : List Part) → ((p : Part) → In p ps → IsWhole p) → AreValid ps
wholes_valid ps w l g h = whole_valid (λ qs. of_parts qs) l g (w (Int l g) h)

pub number_whole : (ps : List Part) (z : Part) → ((p : Part) → In p ps → IsWhole p) → In z (int_parts ps) → WholeOf 9 9 z
number_whole ps z w h =
    let found = from_map range_part z (few_ranges (put_ints ps [])) h in
    let valid = rise_valid found.0 (few_ranges (put_ints ps [])) (few_rise (put_ints ps []) (ints_rise ps [] (wholes_valid ps w) tt)) found.1.0 in
    subst (WholeOf 9 9) (sym found.1.1) (range_whole found.0.0 found.0.1 valid, refl)

pub kind_whole : (a b : ℕ) (ps : List Part) (z : Part) → ((p : Part) → In p ps → IsWhole p) → In z (of_kinds a b ps) → WholeOf a b z
kind_whole a b ps z w h = let k = from_filter (is_of a b) z ps h in (w z k.0, k.1)

-- what each piece holds
abbrev pub Held : Part → Type 0
Held z = (a : ℕ) × ((b : ℕ) × ((b < 17) × WholeOf a b z))

held_at : (make : List Part → PhpType) (ps : List Part) (z : Part) → ((p : Part) → In p ps → IsWhole p) → Found make ps z → Held z
held_at make ps z w (objects h) = (1, (5, (omega arith, kind_whole 1 5 ps z w h)))
held_at make ps z w (arrays h) = (6, (7, (omega arith, array_cases make ps z (nat_lt 1 (length (of_kinds 6 7 ps))) w h)))
held_at make ps z w (callables h) = (8, (8, (omega arith, kind_whole 8 8 ps z w h)))
held_at make ps z w (numbers h) = (9, (9, (omega arith, number_whole ps z w h)))
held_at make ps z w (floats h) = (10, (10, (omega arith, kind_whole 10 10 ps z w h)))
held_at make ps z w (texts h) = (11, (11, (omega arith, text_whole ps z w h)))
held_at make ps z w (others h) = (12, (16, (omega arith, kind_whole 12 16 ps z w h)))

pub held : (make : List Part → PhpType) (ps : List Part) (z : Part) → ((p : Part) → In p ps → IsWhole p) → In z (settled_parts make ps) → Held z
held make ps z w h = held_at make ps z w (find make ps z h)

pub kinds_apart : (a b c d : ℕ) (z : Part) → b < c → is_of a b z ≡ true → is_of c d z ≡ false
kinds_apart a b c d z lt e = grind (arith, nat_tests)

pub kinds_apart-below : (a b c d : ℕ) (z : Part) → d < a → is_of a b z ≡ true → is_of c d z ≡ false
kinds_apart-below a b c d z lt e = grind (arith, nat_tests)
