-- The text of a comment and where its tags stand. Places count bytes of the comment from 0; what is taken away from the comment is read as a space, so that places stay.
use Rattle.std.specs.Prelude.{ℕ, zero, suc, ◌+◌, ◌-◌, ◌==◌, ◌||◌, ◌&&◌, nat_le, nat_lt, if◌then◌else◌, Bool, true, List, [], ◌∷◌, ◌++◌, length, map, slice_index}
use Rattle.std.specs.List.{filter}
use Rattle.stan_base.specs.Bytes.{is_blank, continues_identifier, line_of}
use Rattle.stan_model_grammar.specs.Runs.{run_end}
use Rattle.stan_model_doc.specs.declared.token.TagSpan.{TagSpan}

-- the places before one, in order
abbrev pub places : ℕ → List ℕ
places zero = []
places (suc n) = places n ++ n ∷ []

-- ---- the marks of a comment

abbrev pub has_opening : List ℕ → Bool
has_opening comment = (slice_index comment 0 == 47) && (slice_index comment 1 == 42) && (slice_index comment 2 == 42)

-- behind its `/**`
unfoldable pub text_start : List ℕ → ℕ
text_start comment = if has_opening comment then 3 else 0

abbrev pub has_closing : List ℕ → Bool
has_closing comment =
    nat_le (text_start comment + 2) (length comment) && (slice_index comment (length comment - 2) == 42) && (slice_index comment (length comment - 1) == 47)

-- before its `*/`
unfoldable pub text_end : List ℕ → ℕ
text_end comment = if has_closing comment then length comment - 2 else length comment

-- Whether nothing but blanks stands in its line before the byte so many places behind another one, where the first line begins.
unfoldable pub is_line_front : List ℕ → ℕ → ℕ → Bool
is_line_front bytes from zero = true
is_line_front bytes from (suc k) = (slice_index bytes (from + k) == 10) || (is_blank (slice_index bytes (from + k)) && is_line_front bytes from k)

-- a `*` with nothing but blanks before it in its line
abbrev pub is_leading_star : List ℕ → ℕ → Bool
is_leading_star comment at = (slice_index comment at == 42) && is_line_front comment (text_start comment) (at - text_start comment)

-- ---- the text

-- a byte of the comment, or a space for one that is taken away
unfoldable pub text_byte : List ℕ → ℕ → ℕ
text_byte comment at = if nat_lt at (text_start comment) || is_leading_star comment at then 32 else slice_index comment at

-- The comment's text: `/**` at its beginning, `*/` at its end and one leading `*` of each line are taken away.
abbrev pub doc_text : List ℕ → List ℕ
doc_text comment = map (text_byte comment) (places (text_end comment))

-- ---- tags

-- an `@` with nothing but blanks before it in its line
unfoldable pub begins_tag : List ℕ → ℕ → Bool
begins_tag text at = (slice_index text at == 64) && is_line_front text 0 at

unfoldable pub tag_places : List ℕ → List ℕ
tag_places text = filter (begins_tag text) (places (length text))

-- letters, digits, `_`, `-`, `\` and bytes from 80 (hexadecimal) on
abbrev pub tag_word_at : List ℕ → ℕ → Bool
tag_word_at text k = continues_identifier (slice_index text k) || (slice_index text k == 45) || (slice_index text k == 92)

-- the tag that begins at a place and ends at another
unfoldable pub tag_span : List ℕ → ℕ → ℕ → TagSpan
tag_span text start end = record { line = line_of text start; start = start; word_end = run_end text (tag_word_at text) (start + 1); end = end }

-- the first of these places, or another one
abbrev pub first_or : List ℕ → ℕ → ℕ
first_or [] other = other
first_or (place ∷ rest) other = place

-- the tags that begin at these places: each goes on to the next
abbrev pub spans_of : List ℕ → List ℕ → List TagSpan
spans_of text [] = []
spans_of text (place ∷ rest) = tag_span text place (first_or rest (length text)) ∷ spans_of text rest

-- the tags of a comment's text, in order
abbrev pub tag_spans : List ℕ → List TagSpan
tag_spans text = spans_of text (tag_places text)
