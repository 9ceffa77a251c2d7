-- The steps of reading a number's value.
use Rattle.std.proofs.Common.{◌≡◌, ℕ, ◌+◌, ◌*◌, ◌<◌, ◌≤◌, List, [], ◌∷◌, length, drop, get_or, refl, ◌∙◌, add-one, drop-cons, arith, true, false, Bool, cond}
use Rattle.std.specs.Prelude.{◌==◌}
use Rattle.std.specs.List.{fold}
use Rattle.std.proofs.Math.Nat.{mul-le-mul_left}
use Rattle.stan_model_grammar.specs.Runs.{with_digit, digit_value, digits_value}

grows : (base value b : ℕ) → 1 ≤ base → value ≤ with_digit base value b
grows base value b h = by (b == 95)
  where
    by : (is : Bool) → value ≤ cond is value (value * base + digit_value b)
    by true = omega arith
    by false = omega (arith, mul-le-mul_left value h)

-- More digits make no smaller number.
pub fold_grows : (base value : ℕ) (digits : List ℕ) → 1 ≤ base → value ≤ fold (with_digit base) value digits
fold_grows base value [] h = omega arith
fold_grows base value (b ∷ digits) h = omega (arith, grows base value b h, fold_grows base (with_digit base value b) digits h)

module _ (base value : ℕ) (digits : List ℕ) (i : ℕ) (lt : i < length digits) where
  pub fold_drop : fold (with_digit base) (with_digit base value (get_or digits i 0)) (drop (i + 1) digits) ≡ fold (with_digit base) value (drop i digits)
  fold_drop = rw (drop-cons digits i 0, add-one i) refl

pub ruleset value_steps = (fold_grows, fold_drop)

-- Digits whose front makes a number above a bound make one above it.
pub value_above : (base value greatest : ℕ) (digits : List ℕ) (i : ℕ) → 1 ≤ base → i < length digits → greatest < with_digit base value (get_or digits i 0)
    → fold (with_digit base) value (drop i digits) ≡ fold (with_digit base) 0 digits → greatest < digits_value base digits
unfolding digits_value
value_above base value greatest digits i h lt above same =
    let next = with_digit base value (get_or digits i 0) in
    let grown : next ≤ fold (with_digit base) next (drop (i + 1) digits) = fold_grows base next (drop (i + 1) digits) h in
    let e : fold (with_digit base) next (drop (i + 1) digits) ≡ fold (with_digit base) 0 digits = fold_drop base value digits i lt ∙ same in
    omega (arith, e, grown)
