-- Numbers: the longest that fits.
use Rattle.std.specs.Prelude.{ℕ, ◌+◌, ◌==◌, ◌||◌, ◌&&◌, nat_le, nat_lt, if◌then◌else◌, Bool, List, slice_index, slice_range}
use Rattle.stan_model_grammar.specs.declared.token.TokenKind.{TokenKind}
use Rattle.stan_model_grammar.specs.declared.token.TokenKind.TheVariants as kinds
use Rattle.stan_model_grammar.specs.Runs.{run_end, is_digit, is_octal_digit, is_binary_digit, is_hexadecimal_digit, digit_at, digits_value}

-- An integer past the greatest one is a float.
abbrev pub integer_kind : ℕ → List ℕ → TokenKind
integer_kind base digits = if nat_le (digits_value base digits) 9223372036854775807 then kinds.Integer else kinds.Float

-- `0`, one of two letters and a digit
abbrev pub has_prefix : List ℕ → ℕ → ℕ → ℕ → (ℕ → Bool) → Bool
has_prefix source at small capital digit =
    (slice_index source at == 48) && ((slice_index source (at + 1) == small) || (slice_index source (at + 1) == capital)) && digit (slice_index source (at + 2))

abbrev pub has_hexadecimal_prefix : List ℕ → ℕ → Bool
has_hexadecimal_prefix source at = has_prefix source at 120 88 is_hexadecimal_digit

abbrev pub has_binary_prefix : List ℕ → ℕ → Bool
has_binary_prefix source at = has_prefix source at 98 66 is_binary_digit

-- the digits of a base from one place on, in a number that begins at another
abbrev pub digits : List ℕ → ℕ → (ℕ → Bool) → ℕ → TokenKind × ℕ
digits source base digit from = let to = run_end source (digit_at digit source) from in (integer_kind base (slice_range source from to), to)

unfoldable pub integer : List ℕ → ℕ → TokenKind × ℕ
integer source at =
    if has_hexadecimal_prefix source at then digits source 16 is_hexadecimal_digit (at + 2) else (
    if has_binary_prefix source at then digits source 2 is_binary_digit (at + 2) else (
    if slice_index source at == 48 then digits source 8 is_octal_digit at else digits source 10 is_digit at))

-- behind digits: the end of a point and the digits behind it
unfoldable pub fraction_end : List ℕ → ℕ → ℕ
fraction_end source at =
    if slice_index source at == 46 then (if is_digit (slice_index source (at + 1)) then run_end source (digit_at is_digit source) (at + 1) else at + 1) else at

-- behind digits or a fraction: the end of an exponent
unfoldable pub exponent_end : List ℕ → ℕ → ℕ
exponent_end source at =
    if (slice_index source at == 101) || (slice_index source at == 69)
    then (let from = if (slice_index source (at + 1) == 43) || (slice_index source (at + 1) == 45) then at + 2 else at + 1 in
    if is_digit (slice_index source from) then run_end source (digit_at is_digit source) from else at)
    else at

abbrev pub begins_number : List ℕ → ℕ → Bool
begins_number source at = is_digit (slice_index source at) || ((slice_index source at == 46) && is_digit (slice_index source (at + 1)))

-- A float has a point or an exponent, and may begin with the point.
unfoldable pub number : List ℕ → ℕ → TokenKind × ℕ
number source at =
    if slice_index source at == 46 then (kinds.Float, exponent_end source (run_end source (digit_at is_digit source) (at + 1))) else
    let whole = run_end source (digit_at is_digit source) at in
    let to = exponent_end source (fraction_end source whole) in
    if nat_lt whole to then (kinds.Float, to) else integer source at
