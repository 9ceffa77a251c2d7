-- The bases of integers.
use Rattle.std.specs.Prelude.{ℕ, Bool, List, slice_range}
use Rattle.stan_model_grammar.specs.declared.token.TokenKind.{TokenKind}
use Rattle.stan_model_grammar.specs.Numbers.{integer_kind}
use Rattle.stan_model_grammar.specs.Runs.{run_end, digit_at, is_digit, is_octal_digit, is_binary_digit, is_hexadecimal_digit}
use Rattle.stan_runs.specs.declared.bases.Base.{Base}
use Rattle.stan_runs.specs.declared.bases.Base.TheVariants as bases

abbrev pub is_digit_in : Base → ℕ → Bool
is_digit_in bases.Binary = is_binary_digit
is_digit_in bases.Octal = is_octal_digit
is_digit_in bases.Decimal = is_digit
is_digit_in bases.Hexadecimal = is_hexadecimal_digit

-- how many digits a base has
abbrev pub radix : Base → ℕ
radix bases.Binary = 2
radix bases.Octal = 8
radix bases.Decimal = 10
radix bases.Hexadecimal = 16

-- the integer whose digits begin at a place
abbrev pub digits_of : List ℕ → Base → ℕ → TokenKind × ℕ
digits_of source base from = let to = run_end source (digit_at (is_digit_in base) source) from in (integer_kind (radix base) (slice_range source from to), to)
