-- What integers and texts mean, by the bytes of their tokens.
use Rattle.std.specs.Prelude.{ℕ, ◌+◌, ◌-◌, ◌*◌, ◌/◌, ◌%◌, ◌==◌, ◌||◌, ◌&&◌, not, nat_lt, zero, suc, if◌then◌else◌, Bool, true, false, List, [], ◌∷◌, ◌++◌, Option, Some, None, length, take, drop, slice_index, slice_range}
use Rattle.stan_model_grammar.specs.declared.token.TokenKind.{TokenKind}
use Rattle.stan_model_grammar.specs.declared.token.TokenKind.TheVariants as kinds
use Rattle.stan_model_grammar.specs.Runs.{run_end, is_octal_digit, is_hexadecimal_digit, is_space, hexadecimal_at, space_at, digit_value, digits_value}
use Rattle.stan_model_grammar.specs.Numbers.{has_hexadecimal_prefix, has_binary_prefix}
use Rattle.stan_model_grammar.specs.Texts.{is_code_point}
use Rattle.stan_model_grammar.specs.Heredocs.{begins_heredoc, label, body_start, body_end}

-- ---- integers

unfoldable pub integer_value : List ℕ → ℕ
integer_value bytes =
    if has_hexadecimal_prefix bytes 0 then digits_value 16 (drop 2 bytes) else (
    if has_binary_prefix bytes 0 then digits_value 2 (drop 2 bytes) else (
    if slice_index bytes 0 == 48 then digits_value 8 bytes else digits_value 10 bytes))

-- ---- texts in `'`

-- the bytes between the quotes, where a `\` may stand before them
abbrev pub single_resolved : Bool → List ℕ → List ℕ
single_resolved false [] = []
single_resolved true [] = 92 ∷ []
single_resolved false (b ∷ bs) = if b == 92 then single_resolved true bs else (b ∷ single_resolved false bs)
single_resolved true (b ∷ bs) = if (b == 92) || (b == 39) then (b ∷ single_resolved false bs) else (92 ∷ b ∷ single_resolved false bs)

-- ---- escapes

-- the bytes of a code point in UTF-8
abbrev pub utf8 : ℕ → List ℕ
utf8 c =
    if nat_lt c 128 then c ∷ [] else (
    if nat_lt c 2048 then (192 + c / 64) ∷ (128 + c % 64) ∷ [] else (
    if nat_lt c 65536 then (224 + c / 4096) ∷ (128 + (c / 64) % 64) ∷ (128 + c % 64) ∷ [] else
    ((240 + c / 262144) ∷ (128 + (c / 4096) % 64) ∷ (128 + (c / 64) % 64) ∷ (128 + c % 64) ∷ [])))

-- what a byte behind a `\` means alone. Only between quotes may a `"` be escaped.
abbrev pub letter_escape : Bool → ℕ → Option ℕ
letter_escape quoted b =
    if b == 110 then Some 10 else (
    if b == 116 then Some 9 else (
    if b == 114 then Some 13 else (
    if b == 118 then Some 11 else (
    if b == 101 then Some 27 else (
    if b == 102 then Some 12 else (
    if (b == 92) || (b == 36) then Some b else (
    if quoted && (b == 34) then Some b else None)))))))

-- one to three octal digits, without what is more than a byte
abbrev pub octal_escape : List ℕ → List ℕ × ℕ
octal_escape rest =
    let a = slice_index rest 0 - 48 in
    let b = slice_index rest 1 - 48 in
    let c = slice_index rest 2 - 48 in
    if not (is_octal_digit (slice_index rest 1)) then (a ∷ [], 1) else (
    if not (is_octal_digit (slice_index rest 2)) then ((a * 8 + b) ∷ [], 2) else (((a * 64 + b * 8 + c) % 256) ∷ [], 3))

-- `x` and one or two hexadecimal digits
abbrev pub hexadecimal_escape : List ℕ → List ℕ × ℕ
hexadecimal_escape rest =
    if is_hexadecimal_digit (slice_index rest 2) then ((digit_value (slice_index rest 1) * 16 + digit_value (slice_index rest 2)) ∷ [], 3) else (digit_value (slice_index rest 1) ∷ [], 2)

-- `u{`, hexadecimal digits and `}`
abbrev pub code_point_escape : List ℕ → List ℕ × ℕ
code_point_escape rest =
    let to = run_end rest (hexadecimal_at rest) 2 in
    (utf8 (digits_value 16 (slice_range rest 2 to)), to + 1)

abbrev pub letter_or : Option ℕ → List ℕ × ℕ → List ℕ × ℕ
letter_or None other = other
letter_or (Some b) other = (b ∷ [], 1)

abbrev pub begins_hexadecimal : List ℕ → Bool
begins_hexadecimal rest = (slice_index rest 0 == 120) && is_hexadecimal_digit (slice_index rest 1)

abbrev pub begins_code_point : List ℕ → Bool
begins_code_point rest = (slice_index rest 0 == 117) && (slice_index rest 1 == 123) && is_code_point rest 2

-- What the bytes behind a `\` mean with it, and how many of them belong to it. Where they mean nothing the `\` stays.
unfoldable pub escape : Bool → List ℕ → List ℕ × ℕ
escape quoted rest = letter_or (letter_escape quoted (slice_index rest 0)) (
    if is_octal_digit (slice_index rest 0) then octal_escape rest else (
    if begins_hexadecimal rest then hexadecimal_escape rest else (
    if begins_code_point rest then code_point_escape rest else (92 ∷ [], 0))))

-- bytes with their escapes resolved, behind as many that belong to an escape
abbrev pub resolved : Bool → ℕ → List ℕ → List ℕ
resolved quoted skip [] = []
resolved quoted zero (b ∷ bs) = if b == 92 then (escape quoted bs).0 ++ resolved quoted (escape quoted bs).1 bs else (b ∷ resolved quoted zero bs)
resolved quoted (suc skip) (b ∷ bs) = resolved quoted skip bs

-- ---- heredocs and nowdocs

-- without the line feed at the end, and a carriage return before it
abbrev pub without_line_end : List ℕ → List ℕ
without_line_end bytes =
    if not (slice_index bytes (length bytes - 1) == 10) then bytes else (
    if slice_index bytes (length bytes - 2) == 13 then take (length bytes - 2) bytes else take (length bytes - 1) bytes)

-- lines without so many blanks at the beginning of each, where the first may lose as many as are left
abbrev pub unindented : ℕ → ℕ → List ℕ → List ℕ
unindented indent left [] = []
unindented indent left (b ∷ bs) =
    if b == 10 then (10 ∷ unindented indent indent bs) else (
    if is_space b && nat_lt 0 left then unindented indent (left - 1) bs else (b ∷ unindented indent 0 bs))

-- the lines of a heredoc or nowdoc
unfoldable pub body_lines : List ℕ → List ℕ
body_lines bytes =
    let from = body_start bytes 0 in
    let to = body_end bytes (label bytes 0) from in
    let indent = run_end bytes (space_at bytes) to - to in
    if begins_heredoc bytes 0 then unindented indent indent (without_line_end (slice_range bytes from to)) else []

-- ---- texts

-- what stands between two quotes
abbrev pub between_quotes : List ℕ → List ℕ
between_quotes bytes = slice_range bytes 1 (length bytes - 1)

-- The bytes that the token of a text, or a fixed piece of one, means.
abbrev pub text_value : TokenKind → List ℕ → List ℕ
text_value kinds.SingleQuoted bytes = single_resolved false (between_quotes bytes)
text_value kinds.DoubleQuoted bytes = resolved true 0 (between_quotes bytes)
text_value kinds.TextPiece bytes = resolved true 0 bytes
text_value kinds.Heredoc bytes = resolved false 0 (body_lines bytes)
text_value kinds.Nowdoc bytes = body_lines bytes
text_value _ bytes = []
