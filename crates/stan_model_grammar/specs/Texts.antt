-- Texts in quotes, and the insertions of those in `"`.
use Rattle.std.specs.Prelude.{zero, suc, ℕ, ◌+◌, ◌-◌, ◌==◌, ◌||◌, ◌&&◌, not, nat_le, nat_lt, if◌then◌else◌, Bool, true, false, List, length, slice_index, slice_range}
use Rattle.stan_model_grammar.specs.declared.token.TokenKind.{TokenKind}
use Rattle.stan_model_grammar.specs.declared.token.TokenKind.TheVariants as kinds
use Rattle.stan_base.specs.Bytes.{begins_identifier}
use Rattle.stan_model_grammar.specs.Runs.{run_end, is_digit, hexadecimal_at, word_at, digits_value}
use Rattle.stan_model_grammar.specs.Words.{begins_variable}
use Rattle.stan_model_grammar.specs.Numbers.{number}

-- ---- escapes

-- Whether the byte so many places behind a text's first one is escaped: a `\` stands before it that isn't escaped itself.
unfoldable pub is_escaped : List ℕ → ℕ → ℕ → Bool
is_escaped source from zero = false
is_escaped source from (suc k) = not (is_escaped source from k) && (slice_index source (from + k) == 92)

-- hexadecimal digits of a number up to 10FFFF, and a `}`
unfoldable pub is_code_point : List ℕ → ℕ → Bool
is_code_point source from =
    let to = run_end source (hexadecimal_at source) from in
    nat_lt from to && (slice_index source to == 125) && nat_le (digits_value 16 (slice_range source from to)) 1114111

-- `\u{` with no code point behind it
abbrev pub begins_wrong_escape : List ℕ → ℕ → Bool
begins_wrong_escape source k = (slice_index source k == 92) && (slice_index source (k + 1) == 117) && (slice_index source (k + 2) == 123) && not (is_code_point source (k + 3))

-- ---- insertions

-- `$` before an identifier or `{`, or `{$`
abbrev pub begins_insertion : List ℕ → ℕ → Bool
begins_insertion source k =
    ((slice_index source k == 36) && (begins_identifier (slice_index source (k + 1)) || (slice_index source (k + 1) == 123)))
    || ((slice_index source k == 123) && (slice_index source (k + 1) == 36))

abbrev pub is_integer : TokenKind → Bool
is_integer kinds.Integer = true
is_integer _ = false

-- the end of an integer, or its place where none begins
unfoldable pub integer_end : List ℕ → ℕ → ℕ
integer_end source at = if is_digit (slice_index source at) && is_integer (number source at).0 then (number source at).1 else at

-- the end of an index: a name, a variable, or an integer with or without `-`. Where none begins, its place.
unfoldable pub index_end : List ℕ → ℕ → ℕ
index_end source at =
    if begins_identifier (slice_index source at) then run_end source (word_at source) at else (
    if begins_variable source at then run_end source (word_at source) (at + 1) else (
    if slice_index source at == 45 then (if nat_lt (at + 1) (integer_end source (at + 1)) then integer_end source (at + 1) else at) else integer_end source at))

-- an index in brackets
abbrev pub has_index : List ℕ → ℕ → Bool
has_index source at = (slice_index source at == 91) && nat_lt (at + 1) (index_end source (at + 1)) && (slice_index source (index_end source (at + 1)) == 93)

-- `->` and an identifier
abbrev pub has_property : List ℕ → ℕ → Bool
has_property source at = (slice_index source at == 45) && (slice_index source (at + 1) == 62) && begins_identifier (slice_index source (at + 2))

-- the longest insertion of the variable at a place
unfoldable pub inserted : List ℕ → ℕ → TokenKind × ℕ
inserted source at =
    let to = run_end source (word_at source) (at + 1) in
    if has_index source to then (kinds.InsertedElement, index_end source (to + 1) + 1) else (
    if has_property source to then (kinds.InsertedProperty, run_end source (word_at source) (to + 2)) else (
    if (slice_index source to == 63) && has_property source (to + 1) then (kinds.InsertedProperty, run_end source (word_at source) (to + 3)) else
    (kinds.InsertedVariable, to)))

-- ---- texts

-- a place in a text in `'` that begins behind its quote
abbrev pub single_quoted_at : List ℕ → ℕ → ℕ → Bool
single_quoted_at source from k = is_escaped source from (k - from) || not (slice_index source k == 39)

unfoldable pub single_quoted : List ℕ → ℕ → TokenKind × ℕ
single_quoted source at =
    let to = run_end source (single_quoted_at source (at + 1)) (at + 1) in
    if nat_lt to (length source) then (kinds.SingleQuoted, to + 1) else (kinds.Bad, at + 1)

-- a fixed place in a text in `"`, or in a piece of it, that begins at another place
abbrev pub double_quoted_at : List ℕ → ℕ → ℕ → Bool
double_quoted_at source from k =
    is_escaped source from (k - from) || not ((slice_index source k == 34) || begins_insertion source k || begins_wrong_escape source k)

-- a whole text without insertions, or the quote that begins one with insertions
unfoldable pub double_quoted : List ℕ → ℕ → TokenKind × ℕ
double_quoted source at =
    let to = run_end source (double_quoted_at source (at + 1)) (at + 1) in
    if slice_index source to == 34 then (kinds.DoubleQuoted, to + 1) else (
    if begins_insertion source to then (kinds.TextStart, at + 1) else (kinds.Bad, at + 1))

-- fixed bytes, up to the next insertion or the end of the text
unfoldable pub piece : List ℕ → ℕ → TokenKind × ℕ
piece source at =
    let to = run_end source (double_quoted_at source at) at in
    if nat_lt at to && ((slice_index source to == 34) || begins_insertion source to) then (kinds.TextPiece, to) else (kinds.Bad, at + 1)

-- what stands at a place in a text with insertions
unfoldable pub text_token : List ℕ → ℕ → TokenKind × ℕ
text_token source at =
    if slice_index source at == 34 then (kinds.TextEnd, at + 1) else (
    if (slice_index source at == 123) && (slice_index source (at + 1) == 36) then (kinds.InsertionStart, at + 1) else (
    if begins_variable source at then inserted source at else piece source at))
