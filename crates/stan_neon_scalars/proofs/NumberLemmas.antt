-- The steps of reading a number's value.
use Rattle.std.proofs.Common.{◌≡◌, ℕ, ◌+◌, ◌<◌, ◌≤◌, List, [], ◌∷◌, length, drop, get_or, refl, ◌∙◌, add-one, drop-cons, arith}
use Rattle.std.specs.List.{fold}
use Rattle.stan_neon_scalars.specs.Numbers.{with_digit, digits_value}

-- More digits make no smaller number.
pub fold_grows : (value : ℕ) (digits : List ℕ) → value ≤ fold with_digit value digits
fold_grows value [] = omega arith
fold_grows value (b ∷ digits) = omega (arith, fold_grows (with_digit value b) digits)

module _ (value : ℕ) (digits : List ℕ) (i : ℕ) (lt : i < length digits) where
  pub fold_drop : fold with_digit (with_digit value (get_or digits i 0)) (drop (i + 1) digits) ≡ fold with_digit value (drop i digits)
  fold_drop = rw (drop-cons digits i 0, add-one i) refl

pub ruleset value_steps = (fold_grows, fold_drop)

-- Digits whose front makes a number above a bound make one above it.
pub value_above : (value greatest : ℕ) (digits : List ℕ) (i : ℕ) → i < length digits → greatest < with_digit value (get_or digits i 0)
    → fold with_digit value (drop i digits) ≡ fold with_digit 0 digits → greatest < digits_value digits
unfolding digits_value
value_above value greatest digits i lt above same =
    let next = with_digit value (get_or digits i 0) in
    let grown : next ≤ fold with_digit next (drop (i + 1) digits) = fold_grows next (drop (i + 1) digits) in
    let e : fold with_digit next (drop (i + 1) digits) ≡ fold with_digit 0 digits = fold_drop value digits i lt ∙ same in
    omega (arith, e, grown)
