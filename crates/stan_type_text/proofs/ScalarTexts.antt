-- Scalar parts of one text are one part: the first two bytes of a text tell its kind, and a text of a kind tells the part.
use Rattle.std.proofs.Common.{◌≡◌, ℕ, ◌≢◌, ◌<◌, ◌≤◌, ◌^◌, List, [], ◌∷◌, ◌++◌, length, get_or, suc, Bool, true, false, refl, ap, sym, ◌∙◌, arith, codes}
use Rattle.std.specs.Prelude.{ℤ, pos, negsuc, cond, if◌then◌else◌, ◌==◌, ◌&&◌, nat_le}
use Rattle.std.specs.Fmt.{decimal, signed_decimal}
use Rattle.std.specs.List.{list_all}
use Rattle.std.specs.Ordering.{int_eq}
use Rattle.std.specs.Char.{digit_value}
use Rattle.std.specs.Str.{IsAscii}
use Rattle.std.specs.Str.Parse.{AllDigits}
use Rattle.std.proofs.lemmas.Bool.{leb-true}
use Rattle.std.proofs.lemmas.Bool.Decides.{Decides-int_eq, nat_tests}
use Rattle.std.proofs.lemmas.Fmt.{decimal_is_IsNumeral, signed_decimal_injective}
use Rattle.std.proofs.lemmas.List.{append_cancel_left, append_cancel_right}
use Rattle.std.proofs.lemmas.Str.{utf8_lossy-IsUtf8, IsUtf8-from_ascii}
use Rattle.std.proofs.lemmas.Str.Ascii.{IsAscii-nil, IsAscii-cons}
use Rattle.std.proofs.lemmas.Str.Parse.{digit_at}
use Rattle.stan_model_types.specs.Types.{StringForm, Literal, NonEmpty, Plain, Part, Int, Float, Str, False, True, Null}
use Rattle.stan_model_types.specs.TypeBytes.{kind_of}
use Rattle.stan_model_types.specs.TypeFilters.{least_int, greatest_int}
use Rattle.stan_model_types.specs.TypeTexts.{part_text, form_text, int_text, least_text, greatest_text, shown}
use Rattle.stan_model_types.specs.NormalForms.{is_literal_text}
use Rattle.stan_type_text.specs.Scalars.{IsInt64, IsScalar, IsStringForm, ScalarTextsDiffer}

-- ---- numbers

all_digits : (n : ℕ) → n < 2 ^ 64 → (0 < length (decimal n)) × AllDigits 10 (decimal n)
all_digits n lt = (decimal_is_IsNumeral n lt).0

-- a number begins with a digit or `-`
record BeginsNumber (text : List ℕ) : Type 0 where
  least : 45 ≤ get_or text 0 0
  greatest : get_or text 0 0 ≤ 57

begins_number : (z : ℤ) → IsInt64 z → BeginsNumber (signed_decimal z)
begins_number (pos n) fits =
    let digits = all_digits n (omega arith) in
    let first = digit_at (decimal n) 0 digits.1 digits.0 in
    record { least = omega arith; greatest = omega arith }
begins_number (negsuc n) fits = record { least = omega arith; greatest = omega arith }

-- ---- a mark in a text, and none before it

Lacks : ℕ → List ℕ → Type 0
Lacks m [] = Unit {0}
Lacks m (b ∷ bs) = (b ≢ m) × Lacks m bs

cut_at : (m : ℕ) (a b x y : List ℕ) → Lacks m a → Lacks m b → a ++ m ∷ x ≡ b ++ m ∷ y → (a ≡ b) × (x ≡ y)
unfolding Lacks
cut_at m [] [] x y la lb e = (refl, cc)
cut_at m [] (c ∷ b) x y la lb e = let first : c ≡ m = cc in absurd (lb.0 first)
cut_at m (c ∷ a) [] x y la lb e = let first : c ≡ m = cc in absurd (la.0 first)
cut_at m (c ∷ a) (d ∷ b) x y la lb e =
    let first : c ≡ d = cc in
    let rest : a ++ m ∷ x ≡ b ++ m ∷ y = cc in
    let both = cut_at m a b x y la.1 lb.1 rest in
    (ap (λ u. u ∷ a) first ∙ ap (λ u. d ∷ u) both.0, both.1)

no_digit : (m : ℕ) → digit_value m ≡ 36 → (ds : List ℕ) → AllDigits 10 ds → Lacks m ds
unfolding Lacks
no_digit m h [] all = tt
no_digit m h (d ∷ ds) all = ((λ e. let same : digit_value d ≡ digit_value m = ap digit_value e in absurd (omega (arith, same, h, all.0))), no_digit m h ds all.1)

number_lacks : (m : ℕ) → digit_value m ≡ 36 → 45 ≢ m → (z : ℤ) → IsInt64 z → Lacks m (signed_decimal z)
unfolding Lacks
number_lacks m h ne (pos n) fits = no_digit m h (decimal n) (all_digits n (omega arith)).1
number_lacks m h ne (negsuc n) fits = (ne, no_digit m h (decimal (suc n)) (all_digits (suc n) (omega arith)).1)

-- ---- a bound: a number, or a word for the last one

bound_lacks : (m : ℕ) (word : List ℕ) → Lacks m word → digit_value m ≡ 36 → 45 ≢ m → (z : ℤ) → IsInt64 z → (t : Bool) → Lacks m (if t then word else signed_decimal z)
bound_lacks m word lacks h ne z fits true = lacks
bound_lacks m word lacks h ne z fits false = number_lacks m h ne z fits

word_differs : (word : List ℕ) → 57 < get_or word 0 0 → (z : ℤ) → IsInt64 z → word ≡ signed_decimal z → ⊥
word_differs word up z fits e =
    let begins = begins_number z fits in
    let first : get_or word 0 0 ≡ get_or (signed_decimal z) 0 0 = ap (λ t. get_or t 0 0) e in
    omega (arith, begins.greatest, first, up)

same_bound : (word : List ℕ) (last y z : ℤ) → 57 < get_or word 0 0 → IsInt64 y → IsInt64 z → (t u : Bool) → int_eq y last ≡ t → int_eq z last ≡ u
    → (if t then word else signed_decimal y) ≡ (if u then word else signed_decimal z) → y ≡ z
same_bound word last y z up fy fz true true ey ez e = (Decides-int_eq y last).0 ey ∙ sym ((Decides-int_eq z last).0 ez)
same_bound word last y z up fy fz true false ey ez e = absurd (word_differs word up z fz e)
same_bound word last y z up fy fz false true ey ez e = absurd (word_differs word up y fy (sym e))
same_bound word last y z up fy fz false false ey ez e = signed_decimal_injective y z fy fz e

-- texts with different bytes at a place
unlike : (i : ℕ) (x y : List ℕ) → get_or x i 0 ≢ get_or y i 0 → x ≡ y → ⊥
unlike i x y ne e = ne (ap (λ t. get_or t i 0) e)

-- ---- the three forms of ints

abbrev range_text : ℤ → ℤ → List ℕ
range_text least greatest = codes "int<" ++ (least_text least ++ (codes ", " ++ (greatest_text greatest ++ codes ">")))

data IntForm (least greatest : ℤ) : Type 0 where
  number : least ≡ greatest → int_text least greatest ≡ signed_decimal least → IntForm least greatest
  all : least ≡ least_int → greatest ≡ greatest_int → int_text least greatest ≡ codes "int" → IntForm least greatest
  range : int_text least greatest ≡ range_text least greatest → IntForm least greatest

both_true : (a b : Bool) → (a && b) ≡ true → (a ≡ true) × (b ≡ true)
both_true true b h = (refl, h)
both_true false b h = cc

form_by : (l g : ℤ) (t u : Bool) → int_eq l g ≡ t → (int_eq l least_int && int_eq g greatest_int) ≡ u → IntForm l g
form_by l g true u e f =
    number ((Decides-int_eq l g).0 e) (ap (λ t. if t then signed_decimal l else (if int_eq l least_int && int_eq g greatest_int then codes "int" else range_text l g)) e)
form_by l g false true e f =
    let ends = both_true (int_eq l least_int) (int_eq g greatest_int) f in
    all ((Decides-int_eq l least_int).0 ends.0) ((Decides-int_eq g greatest_int).0 ends.1)
    (ap (λ t. if t then signed_decimal l else (if int_eq l least_int && int_eq g greatest_int then codes "int" else range_text l g)) e ∙ ap (λ t. if t then codes "int" else range_text l g) f)
form_by l g false false e f =
    range (ap (λ t. if t then signed_decimal l else (if int_eq l least_int && int_eq g greatest_int then codes "int" else range_text l g)) e ∙ ap (λ t. if t then codes "int" else range_text l g) f)

int_form : (l g : ℤ) → IntForm l g
int_form l g = form_by l g (int_eq l g) (int_eq l least_int && int_eq g greatest_int) refl refl

-- what begins with a letter is no number
no_number : (text : List ℕ) (z : ℤ) → IsInt64 z → get_or text 0 0 ≡ 105 → signed_decimal z ≡ text → ⊥
no_number text z fits begins e = word_differs text (omega (arith, begins)) z fits (sym e)

comma_lacks : (z : ℤ) → IsInt64 z → Lacks 44 (least_text z)
unfolding Lacks
comma_lacks z fits = bound_lacks 44 (codes "min") ((λ e. omega (arith, e)), ((λ e. omega (arith, e)), ((λ e. omega (arith, e)), tt))) refl (λ e. omega (arith, e)) z fits (int_eq z least_int)

same_range : (l g m h : ℤ) → IsInt64 l → IsInt64 g → IsInt64 m → IsInt64 h → range_text l g ≡ range_text m h → (l ≡ m) × (g ≡ h)
same_range l g m h fl fg fm fh e =
    let inner : least_text l ++ (codes ", " ++ (greatest_text g ++ codes ">")) ≡ least_text m ++ (codes ", " ++ (greatest_text h ++ codes ">")) =
    append_cancel_left (codes "int<") (least_text l ++ (codes ", " ++ (greatest_text g ++ codes ">"))) (least_text m ++ (codes ", " ++ (greatest_text h ++ codes ">"))) e in
    let both = cut_at 44 (least_text l) (least_text m) (32 ∷ (greatest_text g ++ codes ">")) (32 ∷ (greatest_text h ++ codes ">")) (comma_lacks l fl) (comma_lacks m fm) inner in
    let ends : greatest_text g ++ codes ">" ≡ greatest_text h ++ codes ">" = append_cancel_left (32 ∷ []) (greatest_text g ++ codes ">") (greatest_text h ++ codes ">") both.1 in
    let last : greatest_text g ≡ greatest_text h = append_cancel_right (greatest_text g) (greatest_text h) (codes ">") ends in (
      same_bound (codes "min") least_int l m (omega arith) fl fm (int_eq l least_int) (int_eq m least_int) refl refl both.0,
      same_bound (codes "max") greatest_int g h (omega arith) fg fh (int_eq g greatest_int) (int_eq h greatest_int) refl refl last,
    )

same_ints : (l g m h : ℤ) → IsInt64 l → IsInt64 g → IsInt64 m → IsInt64 h → IntForm l g → IntForm m h → int_text l g ≡ int_text m h → (l ≡ m) × (g ≡ h)
same_ints l g m h fl fg fm fh (number a t) (number b u) e =
    let same : l ≡ m = signed_decimal_injective l m fl fm (sym t ∙ e ∙ u) in (same, sym a ∙ same ∙ b)
same_ints l g m h fl fg fm fh (number a t) (all b c u) e = absurd (no_number (codes "int") l fl refl (sym t ∙ e ∙ u))
same_ints l g m h fl fg fm fh (number a t) (range u) e = absurd (no_number (range_text m h) l fl refl (sym t ∙ e ∙ u))
same_ints l g m h fl fg fm fh (all a c t) (number b u) e = absurd (no_number (codes "int") m fm refl (sym u ∙ sym e ∙ t))
same_ints l g m h fl fg fm fh (all a c t) (all b d u) e = (a ∙ sym b, c ∙ sym d)
same_ints l g m h fl fg fm fh (all a c t) (range u) e = absurd (unlike 3 (codes "int") (range_text m h) (λ k. omega (arith, k)) (sym t ∙ e ∙ u))
same_ints l g m h fl fg fm fh (range t) (number b u) e = absurd (no_number (range_text l g) m fm refl (sym u ∙ sym e ∙ t))
same_ints l g m h fl fg fm fh (range t) (all b d u) e = absurd (unlike 3 (range_text l g) (codes "int") (λ k. omega (arith, k)) (sym t ∙ e ∙ u))
same_ints l g m h fl fg fm fh (range t) (range u) e = same_range l g m h fl fg fm fh (sym t ∙ e ∙ u)

-- ---- strings

ascii : (text : List ℕ) → list_all (λ b. nat_le 32 b && nat_le b 126) text ≡ true → IsAscii text
ascii [] h = IsAscii-nil
ascii (b ∷ bs) h =
    let parts = both_true (nat_le 32 b && nat_le b 126) (list_all (λ b. nat_le 32 b && nat_le b 126) bs) h in
    let small : b ≤ 126 = leb-true b 126 (both_true (nat_le 32 b) (nat_le b 126) parts.0).1 in
    IsAscii-cons b bs (omega arith) (ascii bs parts.1)

shown_literal : (text : List ℕ) → is_literal_text text ≡ true → shown text ≡ text
shown_literal text h = utf8_lossy-IsUtf8 text (IsUtf8-from_ascii text (ascii text (both_true (nat_le (length text) 64) (list_all (λ b. nat_le 32 b && nat_le b 126) text) h).1))

same_literal : (x y : List ℕ) → is_literal_text x ≡ true → is_literal_text y ≡ true → form_text (Literal x) ≡ form_text (Literal y) → x ≡ y
same_literal x y hx hy e =
    let inner : shown x ++ codes "'" ≡ shown y ++ codes "'" = append_cancel_left (codes "'") (shown x ++ codes "'") (shown y ++ codes "'") e in
    sym (shown_literal x hx) ∙ append_cancel_right (shown x) (shown y) (codes "'") inner ∙ shown_literal y hy

same_forms : (a b : StringForm) → IsStringForm a → IsStringForm b → form_text a ≡ form_text b → a ≡ b
same_forms (Literal x) (Literal y) ha hb e = ap Literal (same_literal x y ha hb e)
same_forms (Literal x) NonEmpty ha hb e = absurd (unlike 0 (form_text (Literal x)) (form_text NonEmpty) (λ k. omega (arith, k)) e)
same_forms (Literal x) Plain ha hb e = absurd (unlike 0 (form_text (Literal x)) (form_text Plain) (λ k. omega (arith, k)) e)
same_forms NonEmpty (Literal y) ha hb e = absurd (unlike 0 (form_text NonEmpty) (form_text (Literal y)) (λ k. omega (arith, k)) e)
same_forms NonEmpty NonEmpty ha hb e = refl
same_forms NonEmpty Plain ha hb e = absurd (unlike 0 (form_text NonEmpty) (form_text Plain) (λ k. omega (arith, k)) e)
same_forms Plain (Literal y) ha hb e = absurd (unlike 0 (form_text Plain) (form_text (Literal y)) (λ k. omega (arith, k)) e)
same_forms Plain NonEmpty ha hb e = absurd (unlike 0 (form_text Plain) (form_text NonEmpty) (λ k. omega (arith, k)) e)
same_forms Plain Plain ha hb e = refl

-- ---- the kind that a text tells by its first two bytes

abbrev kind_by : ℕ → ℕ → ℕ
kind_by b c = cond (b == 102) (cond (c == 108) 10 13) (cond (b == 39) 11 (cond (b == 115) 11 (cond (b == 110) (cond (c == 111) 11 15) (cond (b == 116) 14 9))))

abbrev kind_in : List ℕ → ℕ
kind_in text = kind_by (get_or text 0 0) (get_or text 1 0)

number_kind : (b c : ℕ) → 45 ≤ b → b ≤ 57 → kind_by b c ≡ 9
number_kind b c low high = grind (arith, nat_tests)

int_kind : (l g : ℤ) → IsInt64 l → IntForm l g → kind_in (int_text l g) ≡ 9
int_kind l g fits (number a t) =
    let begins = begins_number l fits in ap kind_in t ∙ number_kind (get_or (signed_decimal l) 0 0) (get_or (signed_decimal l) 1 0) begins.least begins.greatest
int_kind l g fits (all a b t) = ap kind_in t
int_kind l g fits (range t) = ap kind_in t

form_kind : (form : StringForm) → kind_in (form_text form) ≡ 11
form_kind (Literal text) = refl
form_kind NonEmpty = refl
form_kind Plain = refl

kind_told : (p : Part) → IsScalar p → kind_in (part_text p) ≡ kind_of p
kind_told (Int l g) s = int_kind l g s.0 (int_form l g)
kind_told Float s = refl
kind_told (Str form) s = form_kind form
kind_told False s = refl
kind_told True s = refl
kind_told Null s = refl
kind_told p s = absurd s

-- ---- a part of a known kind

int_with : (l g : ℤ) (q : Part) → IsInt64 l → IsInt64 g → IsScalar q → 9 ≡ kind_of q → int_text l g ≡ part_text q → Int l g ≡ q
int_with l g (Int m h) fl fg s k e =
    let both = same_ints l g m h fl fg s.0 s.1 (int_form l g) (int_form m h) e in ap (λ n. Int n g) both.0 ∙ ap (λ n. Int m n) both.1
int_with l g q fl fg s k e = absurd (omega (arith, k))

string_with : (form : StringForm) (q : Part) → IsStringForm form → IsScalar q → 11 ≡ kind_of q → form_text form ≡ part_text q → Str form ≡ q
string_with form (Str other) f s k e = ap Str (same_forms form other f s e)
string_with form q f s k e = absurd (omega (arith, k))

is_float : (q : Part) → 10 ≡ kind_of q → Float ≡ q
is_float Float k = refl
is_float q k = absurd (omega (arith, k))

is_false : (q : Part) → 13 ≡ kind_of q → False ≡ q
is_false False k = refl
is_false q k = absurd (omega (arith, k))

is_true : (q : Part) → 14 ≡ kind_of q → True ≡ q
is_true True k = refl
is_true q k = absurd (omega (arith, k))

is_null : (q : Part) → 15 ≡ kind_of q → Null ≡ q
is_null Null k = refl
is_null q k = absurd (omega (arith, k))

one_part : (p q : Part) → IsScalar p → IsScalar q → kind_of p ≡ kind_of q → part_text p ≡ part_text q → p ≡ q
one_part (Int l g) q s t k e = int_with l g q s.0 s.1 t k e
one_part Float q s t k e = is_float q k
one_part (Str form) q s t k e = string_with form q s t k e
one_part False q s t k e = is_false q k
one_part True q s t k e = is_true q k
one_part Null q s t k e = is_null q k
one_part p q s t k e = absurd s

pub scalar_texts_differ : ScalarTextsDiffer
scalar_texts_differ p q s t e = one_part p q s t (sym (kind_told p s) ∙ ap kind_in e ∙ kind_told q t) e
