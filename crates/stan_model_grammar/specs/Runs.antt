-- Places of a source: what stands there, and where a run of places ends. Places count bytes from 0. Past the end stands 0, which no test here passes.
use Rattle.std.specs.Prelude.{zero, suc, ℕ, ◌+◌, ◌-◌, ◌*◌, ◌<◌, ◌≤◌, ◌==◌, ◌||◌, ◌&&◌, not, nat_le, if◌then◌else◌, Bool, IsTrue, IsFalse, List, length, slice_index}
use Rattle.std.specs.List.{fold}
use Rattle.stan_base.specs.Bytes.{is_blank, begins_identifier, continues_identifier}

-- ---- runs

unfoldable pub run_end_within : (ℕ → Bool) → ℕ → ℕ → ℕ
run_end_within test zero at = at
run_end_within test (suc left) at = if test at then run_end_within test left (at + 1) else at

-- the first place from this one on that fails the test, or the end of the source
unfoldable pub run_end : List ℕ → (ℕ → Bool) → ℕ → ℕ
run_end source test at = run_end_within test (length source - at) at

-- All places from one up to another pass the test, and the last run ends there.
pub record IsRun (source : List ℕ) (test : ℕ → Bool) (from to : ℕ) : Type 0 where
  pub rises : from ≤ to
  pub within : to ≤ length source
  pub passes : (k : ℕ) → from ≤ k → k < to → IsTrue (test k)
  pub stops : to < length source → IsFalse (test to)

-- ---- bytes

abbrev pub is_digit : ℕ → Bool
is_digit b = nat_le 48 b && nat_le b 57

abbrev pub is_octal_digit : ℕ → Bool
is_octal_digit b = nat_le 48 b && nat_le b 55

abbrev pub is_binary_digit : ℕ → Bool
is_binary_digit b = nat_le 48 b && nat_le b 49

abbrev pub is_hexadecimal_digit : ℕ → Bool
is_hexadecimal_digit b = is_digit b || (nat_le 65 b && nat_le b 70) || (nat_le 97 b && nat_le b 102)

-- space and tab
abbrev pub is_space : ℕ → Bool
is_space b = (b == 32) || (b == 9)

-- ---- what a place may hold in a run

abbrev pub blank_at : List ℕ → ℕ → Bool
blank_at source k = is_blank (slice_index source k)

abbrev pub space_at : List ℕ → ℕ → Bool
space_at source k = is_space (slice_index source k)

abbrev pub word_at : List ℕ → ℕ → Bool
word_at source k = continues_identifier (slice_index source k)

-- a byte of an identifier, or a `\` with an identifier behind it
abbrev pub name_at : List ℕ → ℕ → Bool
name_at source k = continues_identifier (slice_index source k) || ((slice_index source k == 92) && begins_identifier (slice_index source (k + 1)))

-- a digit, or a `_` with a digit behind it
abbrev pub digit_at : (ℕ → Bool) → List ℕ → ℕ → Bool
digit_at digit source k = digit (slice_index source k) || ((slice_index source k == 95) && digit (slice_index source (k + 1)))

abbrev pub hexadecimal_at : List ℕ → ℕ → Bool
hexadecimal_at source k = is_hexadecimal_digit (slice_index source k)

-- no line feed
abbrev pub line_at : List ℕ → ℕ → Bool
line_at source k = not (slice_index source k == 10)

-- neither a line feed nor `?>`
abbrev pub remark_at : List ℕ → ℕ → Bool
remark_at source k = not ((slice_index source k == 10) || ((slice_index source k == 63) && (slice_index source (k + 1) == 62)))

-- no `*/`
abbrev pub comment_at : List ℕ → ℕ → Bool
comment_at source k = not ((slice_index source k == 42) && (slice_index source (k + 1) == 47))

-- ---- values of digits

abbrev pub digit_value : ℕ → ℕ
digit_value b = if nat_le b 57 then b - 48 else (if nat_le b 70 then b - 55 else b - 87)

-- one digit more in a base. A `_` changes nothing.
abbrev pub with_digit : ℕ → ℕ → ℕ → ℕ
with_digit base value b = if b == 95 then value else value * base + digit_value b

unfoldable pub digits_value : ℕ → List ℕ → ℕ
digits_value base digits = fold (with_digit base) 0 digits
