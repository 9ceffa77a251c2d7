-- Heredocs and nowdocs.
use Rattle.std.specs.Prelude.{ℕ, ◌+◌, ◌-◌, ◌==◌, ◌||◌, ◌&&◌, not, nat_eq, nat_lt, if◌then◌else◌, Bool, List, length, take, drop, slice_index, slice_range}
use Rattle.std.specs.List.{starts_with}
use Rattle.stan_model_grammar.specs.declared.token.TokenKind.{TokenKind}
use Rattle.stan_model_grammar.specs.declared.token.TokenKind.TheVariants as kinds
use Rattle.stan_base.specs.Bytes.{begins_identifier, continues_identifier}
use Rattle.stan_model_grammar.specs.Runs.{run_end, space_at, word_at}
use Rattle.stan_model_grammar.specs.Texts.{is_escaped, begins_insertion, begins_wrong_escape}

-- ---- the first line, from its `<<<` on

abbrev pub is_quote : ℕ → Bool
is_quote b = (b == 39) || (b == 34)

-- behind the blanks
unfoldable pub head_blanks_end : List ℕ → ℕ → ℕ
head_blanks_end source at = run_end source (space_at source) (at + 3)

-- the quote before the label, or another byte
abbrev pub label_quote : List ℕ → ℕ → ℕ
label_quote source at = slice_index source (head_blanks_end source at)

unfoldable pub label_start : List ℕ → ℕ → ℕ
label_start source at = if is_quote (label_quote source at) then head_blanks_end source at + 1 else head_blanks_end source at

unfoldable pub label_end : List ℕ → ℕ → ℕ
label_end source at = run_end source (word_at source) (label_start source at)

abbrev pub label : List ℕ → ℕ → List ℕ
label source at = slice_range source (label_start source at) (label_end source at)

-- behind the label and its quote
unfoldable pub head_end : List ℕ → ℕ → ℕ
head_end source at = if is_quote (label_quote source at) then label_end source at + 1 else label_end source at

-- a line feed, alone or behind a carriage return
abbrev pub has_line_end : List ℕ → ℕ → Bool
has_line_end source at = (slice_index source at == 10) || ((slice_index source at == 13) && (slice_index source (at + 1) == 10))

abbrev pub begins_heredoc : List ℕ → ℕ → Bool
begins_heredoc source at =
    (slice_index source at == 60) && (slice_index source (at + 1) == 60) && (slice_index source (at + 2) == 60)
    && begins_identifier (slice_index source (label_start source at))
    && (not (is_quote (label_quote source at)) || (slice_index source (label_end source at) == label_quote source at))
    && has_line_end source (head_end source at)

-- the first byte behind the first line
unfoldable pub body_start : List ℕ → ℕ → ℕ
body_start source at = if slice_index source (head_end source at) == 10 then head_end source at + 1 else head_end source at + 2

-- ---- the last line

-- A line that begins there is blanks and then the label, where no byte of an identifier follows.
unfoldable pub line_closes : List ℕ → List ℕ → ℕ → Bool
line_closes source name k =
    let from = run_end source (space_at source) k in
    starts_with nat_eq (drop from source) name && not (continues_identifier (slice_index source (from + length name)))

-- A line begins there that closes the body.
abbrev pub closes : List ℕ → List ℕ → ℕ → ℕ → Bool
closes source name body k = ((k == body) || (slice_index source (k - 1) == 10)) && line_closes source name k

-- where the last line begins, or the end of the source
unfoldable pub body_end : List ℕ → List ℕ → ℕ → ℕ
body_end source name body = run_end source (λ k. not (closes source name body k)) body

-- ---- the whole

-- a place of a heredoc's body at which nothing is inserted, and no wrong escape begins
abbrev pub heredoc_at : List ℕ → ℕ → ℕ → Bool
heredoc_at source body k = not (begins_insertion source k) && (is_escaped source body (k - body) || not (begins_wrong_escape source k))

abbrev pub is_fixed : List ℕ → ℕ → ℕ → Bool
is_fixed source body to = run_end (take to source) (heredoc_at (take to source) body) body == to

-- Where no heredoc begins, without an end, or with something inserted, it is `Bad`.
unfoldable pub heredoc : List ℕ → ℕ → TokenKind × ℕ
heredoc source at =
    if not (begins_heredoc source at) then (kinds.Bad, at + 1) else
    let body = body_start source at in
    let to = body_end source (label source at) body in
    let end = run_end source (space_at source) to + (label_end source at - label_start source at) in
    if not (nat_lt to (length source)) then (kinds.Bad, at + 1) else (
    if label_quote source at == 39 then (kinds.Nowdoc, end) else (
    if is_fixed source body to then (kinds.Heredoc, end) else (kinds.Bad, at + 1)))
