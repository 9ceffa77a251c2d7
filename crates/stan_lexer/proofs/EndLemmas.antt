-- Where tokens end: each one that is read at a place of a source has a byte, and lies within the source.
use Rattle.std.proofs.Common.{◌≡◌, ℕ, ◌+◌, ◌<◌, ◌≤◌, List, length, Bool, true, false, cond, refl, sym, ap, ◌∙◌, arith, ⊎_elim}
use Rattle.std.specs.Prelude.{◌==◌, ◌&&◌, ◌||◌, nat_lt, slice_index}
use Rattle.std.proofs.lemmas.Bool.{and_parts, cases_lt, eqb-true, ltb-true, false≢true, or_cases}
use Rattle.std.proofs.lemmas.List.{get_or_past}
use Rattle.stan_model_grammar.specs.declared.token.TokenKind.{TokenKind}
use Rattle.stan_model_grammar.specs.Runs.{run_end, is_digit, is_octal_digit, is_binary_digit, is_hexadecimal_digit, digit_at}
use Rattle.stan_model_grammar.specs.Words.{variable, name}
use Rattle.stan_model_grammar.specs.Numbers.{has_prefix, has_hexadecimal_prefix, has_binary_prefix, integer, fraction_end, exponent_end, begins_number, number}
use Rattle.stan_runs.proofs.RunLemmas.{run_end_rises, run_end_below, run_end_begins}

-- It lies from a place on, and within the source.
pub record Reaches (source : List ℕ) (from to : ℕ) : Type 0 where
  pub rises : from ≤ to
  pub within : to ≤ length source

-- What is read at a place ends behind it, and within the source.
pub record Ends (source : List ℕ) (at : ℕ) (read : TokenKind × ℕ) : Type 0 where
  pub rises : at < read.1
  pub within : read.1 ≤ length source

pub last_of_three : (a b c : Bool) → (a && b && c) ≡ true → c ≡ true
last_of_three true true c is = is
last_of_three true false c is = absurd (false≢true is)
last_of_three false b c is = absurd (false≢true is)

module _ (source : List ℕ) where
  -- A byte that passes a test which 0 fails stands within the source.
  pub stands : (test : ℕ → Bool) → test 0 ≡ false → (k : ℕ) → test (slice_index source k) ≡ true → k < length source
  stands test zero_fails k passes = ⊎_elim (λ (h : k < length source). h)
      (λ (h : length source ≤ k). absurd (false≢true (sym zero_fails ∙ ap test (sym (get_or_past source k 0 h)) ∙ passes))) (cases_lt k (length source))

  pub byte_stands : (b : ℕ) → (0 == b) ≡ false → (k : ℕ) → (slice_index source k == b) ≡ true → k < length source
  byte_stands b some k is = stands (λ x. x == b) some k is

  pub either_reaches : (b : Bool) (from x y : ℕ) → (b ≡ true → Reaches source from x) → (b ≡ false → Reaches source from y) → Reaches source from (cond b x y)
  either_reaches true from x y then_is else_is = then_is refl
  either_reaches false from x y then_is else_is = else_is refl

  pub either_ends : (b : Bool) (at : ℕ) (p q : TokenKind × ℕ) → (b ≡ true → Ends source at p) → (b ≡ false → Ends source at q) → Ends source at (cond b p q)
  either_ends true at p q then_is else_is = then_is refl
  either_ends false at p q then_is else_is = else_is refl

  pub run_reaches : (test : ℕ → Bool) (from : ℕ) → from ≤ length source → Reaches source from (run_end source test from)
  run_reaches test from h = record { rises = run_end_rises source test from; within = run_end_below source test from h }

  pub ends_by : (at : ℕ) (kind : TokenKind) (to : ℕ) → at < to → to ≤ length source → Ends source at (kind, to)
  ends_by at kind to rises within = record { rises = rises; within = within }

  pub byte_ends : (at : ℕ) (kind : TokenKind) → at < length source → Ends source at (kind, at + 1)
  byte_ends at kind lt = ends_by at kind (at + 1) (omega arith) (omega arith)

  -- a byte and a run behind it
  pub run_ends : (at : ℕ) (kind : TokenKind) (test : ℕ → Bool) → at < length source → Ends source at (kind, run_end source test (at + 1))
  run_ends at kind test lt = ends_by at kind (run_end source test (at + 1)) (omega (arith, run_end_rises source test (at + 1))) (run_end_below source test (at + 1) (omega arith))

  -- ---- words

  pub variable_ends : (at : ℕ) → at < length source → Ends source at (variable source at)
  unfolding variable
  variable_ends at lt = run_ends at _ _ lt

  pub name_ends : (at : ℕ) → at < length source → Ends source at (name source at)
  unfolding name
  name_ends at lt = run_ends at _ _ lt

  -- ---- numbers

  pub fraction_reaches : (at : ℕ) → at ≤ length source → Reaches source at (fraction_end source at)
  unfolding fraction_end
  fraction_reaches at h = either_reaches (slice_index source at == 46) at _ _
      (λ point. let lt : at < length source = byte_stands 46 refl at point in
      either_reaches (is_digit (slice_index source (at + 1))) at _ _
      (λ digit. let r = run_reaches (digit_at is_digit source) (at + 1) (omega arith) in record { rises = omega (arith, r.rises); within = r.within })
      (λ other. record { rises = omega arith; within = omega arith }))
      (λ other. record { rises = omega arith; within = h })

  exponent_from : (at from : ℕ) → at ≤ from → at ≤ length source → Reaches source at (cond (is_digit (slice_index source from)) (run_end source (digit_at is_digit source) from) at)
  exponent_from at from low h = either_reaches (is_digit (slice_index source from)) at _ _
      (λ digit. let lt : from < length source = stands is_digit refl from digit in
      let r = run_reaches (digit_at is_digit source) from (omega arith) in record { rises = omega (arith, r.rises); within = r.within })
      (λ other. record { rises = omega arith; within = h })

  sign_low : (b : Bool) (at : ℕ) → at ≤ cond b (at + 2) (at + 1)
  sign_low true at = omega arith
  sign_low false at = omega arith

  pub exponent_reaches : (at : ℕ) → at ≤ length source → Reaches source at (exponent_end source at)
  unfolding exponent_end
  exponent_reaches at h = either_reaches ((slice_index source at == 101) || (slice_index source at == 69)) at _ _
      (λ letter. exponent_from at _ (sign_low ((slice_index source (at + 1) == 43) || (slice_index source (at + 1) == 45)) at) h)
      (λ other. record { rises = omega arith; within = h })

  -- digits that begin with one
  digits_end : (at : ℕ) (kind : TokenKind) (digit : ℕ → Bool) → at < length source → digit (slice_index source at) ≡ true → Ends source at (kind, run_end source (digit_at digit source) at)
  digits_end at kind digit lt is = ends_by at kind _ (run_end_begins source (digit_at digit source) at lt (rw is refl)) (run_end_below source (digit_at digit source) at (omega arith))

  -- digits behind a prefix
  prefixed_end : (at small capital : ℕ) (kind : TokenKind) (digit : ℕ → Bool) → digit 0 ≡ false → has_prefix source at small capital digit ≡ true
      → Ends source at (kind, run_end source (digit_at digit source) (at + 2))
  prefixed_end at small capital kind digit zero_fails is =
      let d : digit (slice_index source (at + 2)) ≡ true = last_of_three (slice_index source at == 48) ((slice_index source (at + 1) == small) || (slice_index source (at + 1) == capital)) (digit (slice_index source (at + 2))) is in
      let lt : at + 2 < length source = stands digit zero_fails (at + 2) d in
      let r = run_reaches (digit_at digit source) (at + 2) (omega arith) in
      ends_by at kind _ (omega (arith, r.rises)) r.within

  pub integer_ends : (at : ℕ) → at < length source → is_digit (slice_index source at) ≡ true → Ends source at (integer source at)
  unfolding integer
  integer_ends at lt digit = either_ends (has_hexadecimal_prefix source at) at _ _ (λ is. prefixed_end at 120 88 _ is_hexadecimal_digit refl is)
      (λ plain. either_ends (has_binary_prefix source at) at _ _ (λ is. prefixed_end at 98 66 _ is_binary_digit refl is)
      (λ other. either_ends (slice_index source at == 48) at _ _ (λ is. digits_end at _ is_octal_digit lt (ap is_octal_digit (eqb-true (slice_index source at) 48 is)))
      (λ more. digits_end at _ is_digit lt digit)))

  pub number_ends : (at : ℕ) → at < length source → begins_number source at ≡ true → Ends source at (number source at)
  unfolding number
  number_ends at lt begins =
      let whole = run_end source (digit_at is_digit source) at in
      let to = exponent_end source (fraction_end source whole) in
      let w = run_reaches (digit_at is_digit source) at (omega arith) in
      let f = fraction_reaches whole w.within in
      let x = exponent_reaches (fraction_end source whole) f.within in
      either_ends (slice_index source at == 46) at _ _
      (λ point.
      let r = run_reaches (digit_at is_digit source) (at + 1) (omega arith) in
      let e = exponent_reaches (run_end source (digit_at is_digit source) (at + 1)) r.within in
      ends_by at _ _ (omega (arith, r.rises, e.rises)) e.within)
      (λ other. either_ends (nat_lt whole to) at _ _
      (λ more. ends_by at _ to (omega (arith, w.rises, ltb-true whole to more)) x.within)
      (λ none. integer_ends at lt (number_digit begins other)))
    where
      number_digit : begins_number source at ≡ true → (slice_index source at == 46) ≡ false → is_digit (slice_index source at) ≡ true
      number_digit begins other = ⊎_elim (λ digit. digit) (λ point. absurd (false≢true (sym other ∙ (and_parts (slice_index source at == 46) (is_digit (slice_index source (at + 1))) point).0)))
          (or_cases (is_digit (slice_index source at)) ((slice_index source at == 46) && is_digit (slice_index source (at + 1))) begins)
