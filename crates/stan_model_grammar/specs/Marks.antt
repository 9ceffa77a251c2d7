-- Comments, casts, the last `?>`, operators and marks.
use Rattle.std.specs.Prelude.{ℕ, ◌+◌, ◌==◌, ◌||◌, ◌&&◌, not, nat_lt, nat_eq, if◌then◌else◌, Bool, true, false, List, [], ◌∷◌, map, length, drop, slice_index, slice_range}
use Rattle.std.specs.List.{starts_with}
use Rattle.stan_model_grammar.specs.declared.token.TokenKind.{TokenKind}
use Rattle.stan_model_grammar.specs.declared.token.TokenKind.TheVariants as kinds
use Rattle.stan_model_grammar.specs.declared.token.TheConstants.{MARKS, CASTS}
use Rattle.stan_base.specs.Bytes.{is_blank}
use Rattle.stan_model_grammar.specs.Runs.{run_end, space_at, word_at, remark_at, comment_at}
use Rattle.stan_model_grammar.specs.Words.{kind_among}

-- ---- comments

-- `//`, or `#` without `[`
abbrev pub begins_remark : List ℕ → ℕ → Bool
begins_remark source at =
    ((slice_index source at == 35) && not (slice_index source (at + 1) == 91)) || ((slice_index source at == 47) && (slice_index source (at + 1) == 47))

-- up to the line's end or to `?>`
unfoldable pub remark : List ℕ → ℕ → TokenKind × ℕ
remark source at = (kinds.Comment, run_end source (remark_at source) (at + 1))

abbrev pub begins_comment : List ℕ → ℕ → Bool
begins_comment source at = (slice_index source at == 47) && (slice_index source (at + 1) == 42)

-- up to `*/`
unfoldable pub comment : List ℕ → ℕ → TokenKind × ℕ
comment source at =
    let to = run_end source (comment_at source) (at + 2) in
    if not ((slice_index source to == 42) && (slice_index source (to + 1) == 47)) then (kinds.Bad, at + 1) else (
    if (slice_index source (at + 2) == 42) && nat_lt (at + 2) to && is_blank (slice_index source (to + 2)) then (kinds.PhpDoc, to + 2) else (kinds.Comment, to + 2))

-- ---- casts

unfoldable pub casts : List (List ℕ × TokenKind)
casts = map (λ row. (row.0.now, row.1)) CASTS

abbrev pub is_identifier : TokenKind → Bool
is_identifier kinds.Identifier = true
is_identifier _ = false

-- a cast, or else its `(` alone
unfoldable pub parenthesis : List ℕ → ℕ → TokenKind × ℕ
parenthesis source at =
    let from = run_end source (space_at source) (at + 1) in
    let to = run_end source (word_at source) from in
    let close = run_end source (space_at source) to in
    let kind = kind_among casts (slice_range source from to) in
    if not (is_identifier kind) && (slice_index source close == 41) then (kind, close + 1) else (kinds.LeftParenthesis, at + 1)

-- ---- the last `?>`

abbrev pub begins_closing : List ℕ → ℕ → Bool
begins_closing source at = (slice_index source at == 63) && (slice_index source (at + 1) == 62)

-- Nothing or one line end follows.
unfoldable pub closing : List ℕ → ℕ → TokenKind × ℕ
closing source at =
    if (at + 2 == length source)
    || ((slice_index source (at + 2) == 10) && (at + 3 == length source))
    || ((slice_index source (at + 2) == 13) && (slice_index source (at + 3) == 10) && (at + 4 == length source))
    then (kinds.ClosingTag, at + 2) else (kinds.Bad, at + 1)

-- ---- operators and marks

-- the first row of a table of marks that stands at a place. Where none does, no token begins.
abbrev pub mark_among : List (List ℕ × TokenKind) → List ℕ → ℕ → TokenKind × ℕ
mark_among [] source at = (kinds.Bad, at + 1)
mark_among (row ∷ rows) source at = if starts_with nat_eq (drop at source) row.0 then (row.1, at + length row.0) else mark_among rows source at

unfoldable pub marks : List (List ℕ × TokenKind)
marks = map (λ row. (row.0.now, row.1)) MARKS

-- In the table each mark stands before the shorter ones with which it begins, so the longest one counts.
unfoldable pub mark : List ℕ → ℕ → TokenKind × ℕ
mark source at = mark_among marks source at
