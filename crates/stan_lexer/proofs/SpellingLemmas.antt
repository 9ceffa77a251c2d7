-- No number that is spelled at a place is longer than the one that is read there.
use Rattle.std.proofs.Common.{◌≡◌, ℕ, ◌+◌, ◌-◌, ◌<◌, ◌≤◌, inl, inr, List, length, Bool, true, false, cond, refl, sym, ap, ◌∙◌, subst, arith, ⊎_elim}
use Rattle.std.specs.Prelude.{◌==◌, ◌&&◌, ◌||◌, nat_le, nat_lt, slice_index}
use Rattle.std.proofs.lemmas.Bool.{and_parts, and_from, cases_Bool, cases_lt, eq-eqb, eqb-true, leb-true, le-leb, lt-ltb, ltb-true, ne_eqb, or_cases, false≢true}
use Rattle.stan_model_grammar.specs.declared.token.TokenKind.{TokenKind}
use Rattle.stan_model_grammar.specs.Runs.{run_end, is_digit, is_octal_digit, is_binary_digit, is_hexadecimal_digit, digit_at}
use Rattle.stan_model_grammar.specs.Numbers.{has_hexadecimal_prefix, has_binary_prefix, integer, fraction_end, exponent_end, number}
use Rattle.stan_lexer.specs.Spellings.{AreDigits, IsLetter, HasPoint, PointBehind, PointBetween, PointBefore, IsExponent, Unsigned, Signed, IsNumber, Decimal, Octal, Hexadecimal, Binary, Float, Exponent}
use Rattle.stan_runs.proofs.RunLemmas.{run_end_rises, run_end_below, run_end_stops, run_end_skips, run_end_goes_on}
use Rattle.stan_lexer.proofs.EndLemmas.{fraction_reaches, exponent_reaches}

or_right : (a b : Bool) → b ≡ true → (a || b) ≡ true
or_right true b e = refl
or_right false b e = e

or_left : (a b : Bool) → a ≡ true → (a || b) ≡ true
or_left true b e = refl
or_left false b e = absurd (false≢true e)

module _ (source : List ℕ) where
  -- ---- digits

  module _ (digit : ℕ → Bool) (from to : ℕ) (digits : AreDigits digit source from to) where
    each_passes : (k : ℕ) → from ≤ k → k < to → digit_at digit source k ≡ true
    each_passes k low high = ⊎_elim
        (λ (more : from < k). ⊎_elim (λ is. or_left (digit (slice_index source k)) ((slice_index source k == 95) && digit (slice_index source (k + 1))) is)
        (λ between. or_right (digit (slice_index source k)) ((slice_index source k == 95) && digit (slice_index source (k + 1)))
        (and_from (slice_index source k == 95) (digit (slice_index source (k + 1))) (eq-eqb (slice_index source k) 95 between.0) between.2))
        (digits.each k more high))
        (λ (less : k ≤ from).
        let same : from ≡ k = omega arith in
        or_left (digit (slice_index source k)) ((slice_index source k == 95) && digit (slice_index source (k + 1))) (subst (λ i. digit (slice_index source i) ≡ true) same digits.first))
        (cases_lt from k)

    same_run : run_end source (digit_at digit source) to ≡ run_end source (digit_at digit source) from
    same_run =
        let e : from + (to - from) ≡ to = omega (arith, digits.some) in
        ap (run_end source (digit_at digit source)) (sym e)
        ∙ run_end_skips source (digit_at digit source) (to - from) from (omega (arith, digits.within, e)) (λ k low high. each_passes k low (omega (arith, e)))

    digits_reach : to ≤ run_end source (digit_at digit source) from
    digits_reach = omega (arith, same_run, run_end_rises source (digit_at digit source) to)

    -- Digits that no further one follows are the whole run.
    digits_end : digit_at digit source to ≡ false → run_end source (digit_at digit source) from ≡ to
    digits_end stops = sym same_run ∙ run_end_stops source (digit_at digit source) to stops

  octal_is_decimal : (b : ℕ) → is_octal_digit b ≡ true → is_digit b ≡ true
  octal_is_decimal b is =
      let p = and_parts (nat_le 48 b) (nat_le b 55) is in
      and_from (nat_le 48 b) (nat_le b 57) p.0 (le-leb b 57 (omega (arith, leb-true b 55 p.1)))

  decimal_digits : (from to : ℕ) → AreDigits is_octal_digit source from to → AreDigits is_digit source from to
  decimal_digits from to d = record {
    some = d.some;
    within = d.within;
    first = octal_is_decimal (slice_index source from) d.first;
    each = λ k low high. ⊎_elim (λ is. inl (octal_is_decimal (slice_index source k) is)) (λ between. inr (between.0, between.1, octal_is_decimal (slice_index source (k + 1)) between.2)) (d.each k low high);
  }

  -- ---- bytes that end digits

  letter_is : (P : ℕ → Type 0) (k small capital : ℕ) → P small → P capital → IsLetter source k small capital → P (slice_index source k)
  letter_is P k small capital s c letter = ⊎_elim (λ is. subst P (sym is) s) (λ is. subst P (sym is) c) letter

  -- A byte that is neither a digit nor `_` ends digits.
  byte_stops : (k b : ℕ) → slice_index source k ≡ b → is_digit b ≡ false → (b == 95) ≡ false → digit_at is_digit source k ≡ false
  byte_stops k b is no_digit no_bar = rw (is, no_digit, no_bar) refl

  abbrev Ends : ℕ → Type 0
  Ends b = (is_digit b ≡ false) × ((b == 95) ≡ false) × ((b == 46) ≡ false)

  letter_ends : (k small capital : ℕ) → Ends small → Ends capital → IsLetter source k small capital → Ends (slice_index source k)
  letter_ends k small capital s c letter = letter_is Ends k small capital s c letter

  ends_stops : (k : ℕ) → Ends (slice_index source k) → digit_at is_digit source k ≡ false
  ends_stops k e = byte_stops k (slice_index source k) refl e.0 e.1

  -- ---- points and exponents

  fraction_none : (k : ℕ) → (slice_index source k == 46) ≡ false → fraction_end source k ≡ k
  unfolding fraction_end
  fraction_none k e = rw e refl

  fraction_bare : (k : ℕ) → slice_index source k ≡ 46 → is_digit (slice_index source (k + 1)) ≡ false → fraction_end source k ≡ k + 1
  unfolding fraction_end
  fraction_bare k is e = rw (eq-eqb (slice_index source k) 46 is, e) refl

  fraction_digits : (k : ℕ) → slice_index source k ≡ 46 → is_digit (slice_index source (k + 1)) ≡ true → fraction_end source k ≡ run_end source (digit_at is_digit source) (k + 1)
  unfolding fraction_end
  fraction_digits k is e = rw (eq-eqb (slice_index source k) 46 is, e) refl

  fraction_more : (k : ℕ) → slice_index source k ≡ 46 → k + 1 ≤ fraction_end source k
  fraction_more k is = ⊎_elim
      (λ digit. omega (arith, fraction_digits k is digit, run_end_rises source (digit_at is_digit source) (k + 1)))
      (λ other. omega (arith, fraction_bare k is other)) (cases_Bool (is_digit (slice_index source (k + 1))))

  exponent_none : (k : ℕ) → (slice_index source k == 101) ≡ false → (slice_index source k == 69) ≡ false → exponent_end source k ≡ k
  unfolding exponent_end
  exponent_none k a b = rw (a, b) refl

  exponent_is : (k : ℕ) → IsLetter source k 101 69 → ((slice_index source k == 101) || (slice_index source k == 69)) ≡ true
  exponent_is k letter = letter_is (λ b. ((b == 101) || (b == 69)) ≡ true) k 101 69 refl refl letter

  sign_is : (k : ℕ) → IsLetter source k 43 45 → ((slice_index source k == 43) || (slice_index source k == 45)) ≡ true
  sign_is k letter = letter_is (λ b. ((b == 43) || (b == 45)) ≡ true) k 43 45 refl refl letter

  digit_is_no : (b other : ℕ) → is_digit b ≡ true → is_digit other ≡ false → (b == other) ≡ false
  digit_is_no b other is no_digit = ne_eqb b other (λ e. false≢true (sym no_digit ∙ ap is_digit (sym e) ∙ is))

  digit_is_no_sign : (k : ℕ) → is_digit (slice_index source k) ≡ true → ((slice_index source k == 43) || (slice_index source k == 45)) ≡ false
  digit_is_no_sign k is = rw (digit_is_no (slice_index source k) 43 is refl, digit_is_no (slice_index source k) 45 is refl) refl

  exponent_long : (k to : ℕ) → IsExponent source k to → to ≤ exponent_end source k
  unfolding exponent_end
  exponent_long k to (Unsigned letter digits) = rw (exponent_is k letter, digit_is_no_sign (k + 1) digits.first, digits.first) (digits_reach is_digit (k + 1) to digits)
  exponent_long k to (Signed letter sign digits) = rw (exponent_is k letter, sign_is (k + 1) sign, digits.first) (digits_reach is_digit (k + 2) to digits)

  exponent_ends : (k to : ℕ) → IsExponent source k to → Ends (slice_index source k)
  exponent_ends k to (Unsigned letter digits) = letter_ends k 101 69 (refl, refl, refl) (refl, refl, refl) letter
  exponent_ends k to (Signed letter sign digits) = letter_ends k 101 69 (refl, refl, refl) (refl, refl, refl) letter

  point_stops : (k : ℕ) → slice_index source k ≡ 46 → digit_at is_digit source k ≡ false
  point_stops k is = byte_stops k 46 is refl refl

  -- ---- numbers that begin with a digit

  abbrev whole : ℕ → ℕ
  whole at = run_end source (digit_at is_digit source) at

  -- the end of a float that begins with digits
  abbrev float_end : ℕ → ℕ
  float_end at = exponent_end source (fraction_end source (whole at))

  float_long : (at to : ℕ) → is_digit (slice_index source at) ≡ true → whole at < to → to ≤ float_end at → to ≤ (number source at).1
  unfolding number
  float_long at to digit more h = rw (digit_is_no (slice_index source at) 46 digit refl, lt-ltb (whole at) (float_end at) (omega (arith, more, h))) h

  cond_high : (b : Bool) (p q : TokenKind × ℕ) (to : ℕ) → (b ≡ true → to ≤ p.1) → (b ≡ false → to ≤ q.1) → to ≤ (cond b p q).1
  cond_high true p q to then_is else_is = then_is refl
  cond_high false p q to then_is else_is = else_is refl

  integer_long : (at to : ℕ) → is_digit (slice_index source at) ≡ true → (whole at < float_end at → to ≤ float_end at) → to ≤ (integer source at).1 → to ≤ (number source at).1
  unfolding number
  integer_long at to digit float h = rw (digit_is_no (slice_index source at) 46 digit refl)
      (cond_high (nat_lt (whole at) (float_end at)) _ _ to (λ more. float (ltb-true (whole at) (float_end at) more)) (λ less. h))

  zero_is : (at : ℕ) → slice_index source at ≡ 48 → is_digit (slice_index source at) ≡ true
  zero_is at is = subst (λ b. is_digit b ≡ true) (sym is) refl

  prefix_zero : (b digit : Bool) (at : ℕ) → ((slice_index source at == 48) && b && digit) ≡ true → slice_index source at ≡ 48
  prefix_zero b digit at is = eqb-true (slice_index source at) 48 (and_parts (slice_index source at == 48) b (and_parts ((slice_index source at == 48) && b) digit is).0).0

  zero_octal : (at to : ℕ) → slice_index source at ≡ 48 → to ≡ at + 1 → at < length source → to ≤ run_end source (digit_at is_octal_digit source) at
  zero_octal at to is alone lt =
      let passes : digit_at is_octal_digit source at ≡ true = rw is refl in
      omega (arith, run_end_goes_on source (digit_at is_octal_digit source) at lt passes, run_end_rises source (digit_at is_octal_digit source) (at + 1))

  decimal_integer : (at to : ℕ) → AreDigits is_digit source at to → (slice_index source at ≡ 48 → to ≡ at + 1) → to ≤ (integer source at).1
  unfolding integer
  decimal_integer at to digits zero_alone =
      cond_high (has_hexadecimal_prefix source at) _ _ to
      (λ is. omega (arith, zero_alone (prefix_zero _ _ at is), run_end_rises source (digit_at is_hexadecimal_digit source) (at + 2)))
      (λ plain. cond_high (has_binary_prefix source at) _ _ to
      (λ is. omega (arith, zero_alone (prefix_zero _ _ at is), run_end_rises source (digit_at is_binary_digit source) (at + 2)))
      (λ other. cond_high (slice_index source at == 48) _ _ to
      (λ is. zero_octal at to (eqb-true (slice_index source at) 48 is) (zero_alone (eqb-true (slice_index source at) 48 is)) (omega (arith, digits.some, digits.within)))
      (λ more. digits_reach is_digit at to digits)))

  decimal_long : (at to : ℕ) → AreDigits is_digit source at to → (slice_index source at ≡ 48 → to ≡ at + 1) → to ≤ (number source at).1
  decimal_long at to digits zero_alone = integer_long at to digits.first (λ more. omega (arith, more, digits_reach is_digit at to digits)) (decimal_integer at to digits zero_alone)

  middle_is : (a b c : Bool) → (a && b && c) ≡ true → b ≡ true
  middle_is a b c is = (and_parts a b (and_parts (a && b) c is).0).1

  -- A letter that is no octal digit ends octal digits.
  octal_short : (at to small capital : ℕ) → (is_octal_digit small ≡ false) × ((small == 95) ≡ false) → (is_octal_digit capital ≡ false) × ((capital == 95) ≡ false)
      → ((slice_index source (at + 1) == small) || (slice_index source (at + 1) == capital)) ≡ true → AreDigits is_octal_digit source at to → to ≤ at + 1
  octal_short at to small capital s c letter digits =
      let stands : IsLetter source (at + 1) small capital = ⊎_elim (λ is. inl (eqb-true (slice_index source (at + 1)) small is)) (λ is. inr (eqb-true (slice_index source (at + 1)) capital is))
      (or_cases (slice_index source (at + 1) == small) (slice_index source (at + 1) == capital) letter) in
      let other : (is_octal_digit (slice_index source (at + 1)) ≡ false) × ((slice_index source (at + 1) == 95) ≡ false) =
      letter_is (λ b. (is_octal_digit b ≡ false) × ((b == 95) ≡ false)) (at + 1) small capital s c stands in
      ⊎_elim (λ (more : at + 1 < to). absurd (⊎_elim (λ is. false≢true (sym other.0 ∙ is))
      (λ between. false≢true (sym other.1 ∙ eq-eqb (slice_index source (at + 1)) 95 between.0)) (digits.each (at + 1) (omega arith) more)))
      (λ (less : to ≤ at + 1). less) (cases_lt (at + 1) to)

  octal_integer : (at to : ℕ) → slice_index source at ≡ 48 → AreDigits is_octal_digit source at to → to ≤ (integer source at).1
  unfolding integer
  octal_integer at to zero digits =
      cond_high (has_hexadecimal_prefix source at) _ _ to
      (λ is. omega (
        arith,
        octal_short at to 120 88 (refl, refl) (refl, refl) (middle_is (slice_index source at == 48) ((slice_index source (at + 1) == 120) || (slice_index source (at + 1) == 88)) (is_hexadecimal_digit (slice_index source (at + 2))) is) digits,
        run_end_rises source (digit_at is_hexadecimal_digit source) (at + 2),
      ))
      (λ plain. cond_high (has_binary_prefix source at) _ _ to
      (λ is. omega (
        arith,
        octal_short at to 98 66 (refl, refl) (refl, refl) (middle_is (slice_index source at == 48) ((slice_index source (at + 1) == 98) || (slice_index source (at + 1) == 66)) (is_binary_digit (slice_index source (at + 2))) is) digits,
        run_end_rises source (digit_at is_binary_digit source) (at + 2),
      ))
      (λ other. cond_high (slice_index source at == 48) _ _ to (λ is. digits_reach is_octal_digit at to digits)
      (λ no_zero. absurd (false≢true (sym no_zero ∙ eq-eqb (slice_index source at) 48 zero)))))

  octal_long : (at to : ℕ) → slice_index source at ≡ 48 → AreDigits is_octal_digit source at to → to ≤ (number source at).1
  octal_long at to zero digits =
      integer_long at to (zero_is at zero) (λ more. omega (arith, more, digits_reach is_digit at to (decimal_digits at to digits))) (octal_integer at to zero digits)

  -- ---- integers with a prefix

  abbrev IsPlain : ℕ → Type 0
  IsPlain b = Ends b × ((b == 101) ≡ false) × ((b == 69) ≡ false)

  whole_one : (at : ℕ) → at < length source → slice_index source at ≡ 48 → Ends (slice_index source (at + 1)) → whole at ≡ at + 1
  whole_one at lt zero e =
      let passes : digit_at is_digit source at ≡ true = rw zero refl in
      sym (run_end_goes_on source (digit_at is_digit source) at lt passes) ∙ run_end_stops source (digit_at is_digit source) (at + 1) (ends_stops (at + 1) e)

  prefixed_long : (at to : ℕ) → at < length source → slice_index source at ≡ 48 → IsPlain (slice_index source (at + 1)) → to ≤ (integer source at).1 → to ≤ (number source at).1
  prefixed_long at to lt zero plain h =
      let w : whole at ≡ at + 1 = whole_one at lt zero plain.0 in
      let f : float_end at ≡ at + 1 =
      ap (λ k. exponent_end source (fraction_end source k)) w ∙ ap (exponent_end source) (fraction_none (at + 1) plain.0.2) ∙ exponent_none (at + 1) plain.1 plain.2 in
      integer_long at to (zero_is at zero) (λ more. absurd (omega (arith, more, w, f))) h

  letter_true : (k small capital : ℕ) → IsLetter source k small capital → ((slice_index source k == small) || (slice_index source k == capital)) ≡ true
  letter_true k small capital letter = ⊎_elim
      (λ is. or_left (slice_index source k == small) (slice_index source k == capital) (eq-eqb (slice_index source k) small is))
      (λ is. or_right (slice_index source k == small) (slice_index source k == capital) (eq-eqb (slice_index source k) capital is)) letter

  prefix_true : (at small capital : ℕ) (digit : Bool) → slice_index source at ≡ 48 → IsLetter source (at + 1) small capital → digit ≡ true
      → ((slice_index source at == 48) && ((slice_index source (at + 1) == small) || (slice_index source (at + 1) == capital)) && digit) ≡ true
  prefix_true at small capital digit zero letter is = rw (eq-eqb (slice_index source at) 48 zero, letter_true (at + 1) small capital letter, is) refl

  hexadecimal_integer : (at to : ℕ) → slice_index source at ≡ 48 → IsLetter source (at + 1) 120 88 → AreDigits is_hexadecimal_digit source (at + 2) to → to ≤ (integer source at).1
  unfolding integer
  hexadecimal_integer at to zero letter digits =
      cond_high (has_hexadecimal_prefix source at) _ _ to (λ is. digits_reach is_hexadecimal_digit (at + 2) to digits)
      (λ plain. absurd (false≢true (sym plain ∙ prefix_true at 120 88 (is_hexadecimal_digit (slice_index source (at + 2))) zero letter digits.first)))

  hexadecimal_long : (at to : ℕ) → slice_index source at ≡ 48 → IsLetter source (at + 1) 120 88 → AreDigits is_hexadecimal_digit source (at + 2) to → to ≤ (number source at).1
  hexadecimal_long at to zero letter digits =
      prefixed_long at to (omega (arith, digits.some, digits.within)) zero
      (letter_is IsPlain (at + 1) 120 88 ((refl, refl, refl), refl, refl) ((refl, refl, refl), refl, refl) letter) (hexadecimal_integer at to zero letter digits)

  binary_integer : (at to : ℕ) → slice_index source at ≡ 48 → IsLetter source (at + 1) 98 66 → AreDigits is_binary_digit source (at + 2) to → to ≤ (integer source at).1
  unfolding integer
  binary_integer at to zero letter digits =
      cond_high (has_hexadecimal_prefix source at) _ _ to
      (λ is. absurd (false≢true (sym (letter_is (λ b. ((b == 120) || (b == 88)) ≡ false) (at + 1) 98 66 refl refl letter)
      ∙ middle_is (slice_index source at == 48) ((slice_index source (at + 1) == 120) || (slice_index source (at + 1) == 88)) (is_hexadecimal_digit (slice_index source (at + 2))) is)))
      (λ plain. cond_high (has_binary_prefix source at) _ _ to (λ is. digits_reach is_binary_digit (at + 2) to digits)
      (λ other. absurd (false≢true (sym other ∙ prefix_true at 98 66 (is_binary_digit (slice_index source (at + 2))) zero letter digits.first))))

  binary_long : (at to : ℕ) → slice_index source at ≡ 48 → IsLetter source (at + 1) 98 66 → AreDigits is_binary_digit source (at + 2) to → to ≤ (number source at).1
  binary_long at to zero letter digits =
      prefixed_long at to (omega (arith, digits.some, digits.within)) zero
      (letter_is IsPlain (at + 1) 98 66 ((refl, refl, refl), refl, refl) ((refl, refl, refl), refl, refl) letter) (binary_integer at to zero letter digits)

  -- ---- floats

  point_number : (at : ℕ) → slice_index source at ≡ 46 → (number source at).1 ≡ exponent_end source (run_end source (digit_at is_digit source) (at + 1))
  unfolding number
  point_number at is = rw (eq-eqb (slice_index source at) 46 is) refl

  float_from : (at point : ℕ) → AreDigits is_digit source at point → digit_at is_digit source point ≡ false → float_end at ≡ exponent_end source (fraction_end source point)
  float_from at point digits stops = ap (λ k. exponent_end source (fraction_end source k)) (digits_end is_digit at point digits stops)

  exponent_above : (k : ℕ) → k ≤ length source → k ≤ exponent_end source k
  exponent_above k h = let r = exponent_reaches source k h in r.rises

  point_float : (at to : ℕ) → HasPoint source at to → to ≤ (number source at).1
  point_float at to (PointBehind point digits is same) =
      let f = fraction_reaches source point digits.within in
      float_long at to digits.first (omega (arith, digits_end is_digit at point digits (point_stops point is), same))
      (omega (arith, float_from at point digits (point_stops point is), fraction_more point is, exponent_above (fraction_end source point) f.within, same))
  point_float at to (PointBetween point digits is behind) =
      let f = fraction_reaches source point digits.within in
      float_long at to digits.first (omega (arith, digits_end is_digit at point digits (point_stops point is), behind.some))
      (omega (arith, float_from at point digits (point_stops point is), fraction_digits point is behind.first, digits_reach is_digit (point + 1) to behind, exponent_above (fraction_end source point) f.within))
  point_float at to (PointBefore is digits) =
      omega (
        arith,
        point_number at is,
        digits_reach is_digit (at + 1) to digits,
        exponent_above (run_end source (digit_at is_digit source) (at + 1)) (run_end_below source (digit_at is_digit source) (at + 1) (omega (arith, digits.some, digits.within))),
      )

  exponent_some : (k to : ℕ) → IsExponent source k to → k < to
  exponent_some k to (Unsigned letter digits) = omega (arith, digits.some)
  exponent_some k to (Signed letter sign digits) = omega (arith, digits.some)

  exponent_digits : (at middle to : ℕ) → AreDigits is_digit source at middle → IsExponent source middle to → to ≤ (number source at).1
  exponent_digits at middle to digits exponent =
      let e = exponent_ends middle to exponent in
      let stops = ends_stops middle e in
      float_long at to digits.first (omega (arith, digits_end is_digit at middle digits stops, exponent_some middle to exponent))
      (omega (arith, float_from at middle digits stops, ap (exponent_end source) (fraction_none middle e.2), exponent_long middle to exponent))

  exponent_point : (at middle to : ℕ) → HasPoint source at middle → IsExponent source middle to → to ≤ (number source at).1
  exponent_point at middle to (PointBehind point digits is same) exponent =
      let e = exponent_ends middle to exponent in
      let bare : fraction_end source point ≡ middle = fraction_bare point is (subst (λ k. is_digit (slice_index source k) ≡ false) same e.0) ∙ sym same in
      float_long at to digits.first (omega (arith, digits_end is_digit at point digits (point_stops point is), exponent_some middle to exponent, same))
      (omega (arith, float_from at point digits (point_stops point is), ap (exponent_end source) bare, exponent_long middle to exponent))
  exponent_point at middle to (PointBetween point digits is behind) exponent =
      let e = exponent_ends middle to exponent in
      let all : fraction_end source point ≡ middle = fraction_digits point is behind.first ∙ digits_end is_digit (point + 1) middle behind (ends_stops middle e) in
      float_long at to digits.first (omega (arith, digits_end is_digit at point digits (point_stops point is), exponent_some middle to exponent, behind.some))
      (omega (arith, float_from at point digits (point_stops point is), ap (exponent_end source) all, exponent_long middle to exponent))
  exponent_point at middle to (PointBefore is digits) exponent =
      let e = exponent_ends middle to exponent in
      omega (arith, point_number at is, ap (exponent_end source) (digits_end is_digit (at + 1) middle digits (ends_stops middle e)), exponent_long middle to exponent)

pub no_longer_number : (source : List ℕ) (at to : ℕ) → IsNumber source at to → to ≤ (number source at).1
no_longer_number source at to (Decimal digits zero_alone) = decimal_long source at to digits zero_alone
no_longer_number source at to (Octal zero digits) = octal_long source at to zero digits
no_longer_number source at to (Hexadecimal zero letter digits) = hexadecimal_long source at to zero letter digits
no_longer_number source at to (Binary zero letter digits) = binary_long source at to zero letter digits
no_longer_number source at to (Float point) = point_float source at to point
no_longer_number source at to (Exponent middle (inl digits) exponent) = exponent_digits source at middle to digits exponent
no_longer_number source at to (Exponent middle (inr point) exponent) = exponent_point source at middle to point exponent
