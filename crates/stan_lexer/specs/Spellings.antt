-- How numbers are spelled (PHP manual, "Integers" and "Floating point numbers").
use Rattle.std.specs.Prelude.{◌≡◌, ℕ, ◌+◌, ◌<◌, ◌≤◌, ◌⊎◌, Bool, IsTrue, List, length, slice_index}
use Rattle.stan_model_grammar.specs.Runs.{is_digit, is_octal_digit, is_binary_digit, is_hexadecimal_digit}

-- Digits, where one `_` may stand between two.
pub record AreDigits (digit : ℕ → Bool) (source : List ℕ) (from to : ℕ) : Type 0 where
  pub some : from < to
  pub within : to ≤ length source
  pub first : IsTrue (digit (slice_index source from))
  pub each : (k : ℕ) → from < k → k < to → IsTrue (digit (slice_index source k)) ⊎ ((slice_index source k ≡ 95) × (k + 1 < to) × IsTrue (digit (slice_index source (k + 1))))

-- One of two letters stands there.
abbrev pub IsLetter : List ℕ → ℕ → ℕ → ℕ → Type 0
IsLetter source k small capital = (slice_index source k ≡ small) ⊎ (slice_index source k ≡ capital)

-- a point with digits before it, behind it, or both
pub data HasPoint (source : List ℕ) (from to : ℕ) : Type 0 where
  PointBehind : (point : ℕ) → AreDigits is_digit source from point → slice_index source point ≡ 46 → to ≡ point + 1 → HasPoint source from to
  PointBetween : (point : ℕ) → AreDigits is_digit source from point → slice_index source point ≡ 46 → AreDigits is_digit source (point + 1) to → HasPoint source from to
  PointBefore : slice_index source from ≡ 46 → AreDigits is_digit source (from + 1) to → HasPoint source from to

-- an `e`, perhaps a sign, and digits
pub data IsExponent (source : List ℕ) (from to : ℕ) : Type 0 where
  Unsigned : IsLetter source from 101 69 → AreDigits is_digit source (from + 1) to → IsExponent source from to
  Signed : IsLetter source from 101 69 → IsLetter source (from + 1) 43 45 → AreDigits is_digit source (from + 2) to → IsExponent source from to

-- A number stands between the two places. A decimal integer begins with no 0, but for 0 alone.
pub data IsNumber (source : List ℕ) (from to : ℕ) : Type 0 where
  Decimal : AreDigits is_digit source from to → (slice_index source from ≡ 48 → to ≡ from + 1) → IsNumber source from to
  Octal : slice_index source from ≡ 48 → AreDigits is_octal_digit source from to → IsNumber source from to
  Hexadecimal : slice_index source from ≡ 48 → IsLetter source (from + 1) 120 88 → AreDigits is_hexadecimal_digit source (from + 2) to → IsNumber source from to
  Binary : slice_index source from ≡ 48 → IsLetter source (from + 1) 98 66 → AreDigits is_binary_digit source (from + 2) to → IsNumber source from to
  Float : HasPoint source from to → IsNumber source from to
  Exponent : (middle : ℕ) → (AreDigits is_digit source from middle ⊎ HasPoint source from middle) → IsExponent source middle to → IsNumber source from to
