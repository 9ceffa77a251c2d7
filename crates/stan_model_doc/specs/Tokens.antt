-- The tokens of a tag: its word, and those of its text.
use Rattle.std.specs.Prelude.{◌≡◌, ℕ, ◌+◌, ◌<◌, ◌≤◌, ◌==◌, ◌||◌, ◌&&◌, if◌then◌else◌, Bool, false, List, [], ◌∷◌, map, length, take, drop, codes, Option, Some, None, slice_get, slice_index, slice_range, nat_eq}
use Rattle.std.specs.List.{list_any, starts_with}
use Rattle.std.specs.Str.{bytes_eq}
use Rattle.stan_base.specs.Bytes.{begins_identifier, continues_identifier, fold_case}
use Rattle.stan_model_grammar.specs.declared.token.TokenKind.{TokenKind}
use Rattle.stan_model_grammar.specs.declared.token.TokenKind.TheVariants as kinds
use Rattle.stan_model_grammar.specs.Runs.{run_end, blank_at, word_at}
use Rattle.stan_model_grammar.specs.Words.{begins_variable, begins_name}
use Rattle.stan_model_grammar.specs.Numbers.{begins_number, number}
use Rattle.stan_model_grammar.specs.Texts.{single_quoted, double_quoted}
use Rattle.stan_model_doc.specs.declared.token.DocKind.{DocKind}
use Rattle.stan_model_doc.specs.declared.token.DocKind.TheVariants as k
use Rattle.stan_model_doc.specs.declared.token.DocToken.{DocToken}
use Rattle.stan_model_doc.specs.declared.token.TagSpan.{TagSpan}
use Rattle.stan_model_doc.specs.declared.token.TheConstants.{FOLDED_WORDS, EXACT_WORDS, TAG_WORDS, WINNING, DOC_MARKS}
use Rattle.stan_model_doc.specs.contracts.token.DocKind.{the_type}
use denote.Enum.Bare.{sameb}

-- ---- kinds

unfoldable pub same_kind : DocKind → DocKind → Bool
same_kind = sameb the_type

abbrev pub has : List DocKind → DocKind → Bool
has [] kind = false
has (x ∷ xs) kind = same_kind kind x || has xs kind

-- ---- words

-- the kind that a table gives a word, or another one. A word of the first form is compared exactly.
abbrev pub kind_of_word : List (List ℕ × DocKind) → DocKind → List ℕ → DocKind
kind_of_word [] other word = other
kind_of_word (row ∷ rows) other word = if bytes_eq word row.0 then row.1 else kind_of_word rows other word

unfoldable pub folded_words : List (List ℕ × DocKind)
folded_words = map (λ row. (row.0.now, row.1)) FOLDED_WORDS

unfoldable pub exact_words : List (List ℕ × DocKind)
exact_words = map (λ row. (row.0.now, row.1)) EXACT_WORDS

unfoldable pub tag_words : List (List ℕ × DocKind)
tag_words = map (λ row. (row.0.now, row.1)) TAG_WORDS

-- Some words are read exactly, others without case.
unfoldable pub word_kind : List ℕ → DocKind
word_kind word = kind_of_word exact_words (kind_of_word folded_words k.Identifier (fold_case word)) word

-- a byte of a word: `-` and what an identifier goes on with, or a `\` with an identifier behind it
abbrev pub doc_name_at : List ℕ → ℕ → Bool
doc_name_at text at =
    continues_identifier (slice_index text at) || (slice_index text at == 45) || ((slice_index text at == 92) && begins_identifier (slice_index text (at + 1)))

-- Words with `\` or `-` in them are names alone.
unfoldable pub name_kind : List ℕ → DocKind
name_kind name = if list_any (λ b. (b == 92) || (b == 45)) name then k.Name else word_kind name

unfoldable pub doc_name : List ℕ → ℕ → DocKind × ℕ
doc_name text at = let to = run_end text (doc_name_at text) (at + 1) in (name_kind (slice_range text at to), to)

unfoldable pub doc_variable : List ℕ → ℕ → DocKind × ℕ
doc_variable text at =
    let to = run_end text (word_at text) (at + 1) in
    (if bytes_eq (slice_range text at to) (codes "$this") then k.This else k.Variable, to)

-- ---- literals

abbrev pub number_kind : TokenKind → DocKind
number_kind kinds.Float = k.Float
number_kind _ = k.Integer

-- a number of the language, with or without `-` right before it
abbrev pub begins_doc_number : List ℕ → ℕ → Bool
begins_doc_number text at = begins_number text at || ((slice_index text at == 45) && begins_number text (at + 1))

unfoldable pub doc_number : List ℕ → ℕ → DocKind × ℕ
doc_number text at =
    let from = if slice_index text at == 45 then at + 1 else at in
    (number_kind (number text from).0, (number text from).1)

abbrev pub text_kind : TokenKind → DocKind
text_kind kinds.SingleQuoted = k.SingleQuoted
text_kind kinds.DoubleQuoted = k.DoubleQuoted
text_kind _ = k.Other

-- A quoted text of the language without insertions. A quote with which none begins is a byte like any other.
unfoldable pub doc_quoted : List ℕ → ℕ → DocKind × ℕ
doc_quoted text at =
    let read = if slice_index text at == 39 then single_quoted text at else double_quoted text at in
    (text_kind read.0, read.1)

-- ---- marks

-- the first row of a table of marks that stands at a place, or else the byte there
abbrev pub mark_among : List (List ℕ × DocKind) → List ℕ → ℕ → DocKind × ℕ
mark_among [] text at = (k.Other, at + 1)
mark_among (row ∷ rows) text at = if starts_with nat_eq (drop at text) row.0 then (row.1, at + length row.0) else mark_among rows text at

unfoldable pub doc_marks : List (List ℕ × DocKind)
doc_marks = map (λ row. (row.0.now, row.1)) DOC_MARKS

unfoldable pub doc_mark : List ℕ → ℕ → DocKind × ℕ
doc_mark text at = mark_among doc_marks text at

-- ---- the tokens of a text

-- the token that begins at a place where no blank stands, by its kind and its end
unfoldable pub doc_token : List ℕ → ℕ → DocKind × ℕ
doc_token text at =
    if begins_variable text at then doc_variable text at else (
    if begins_name text at then doc_name text at else (
    if begins_doc_number text at then doc_number text at else (
    if (slice_index text at == 39) || (slice_index text at == 34) then doc_quoted text at else doc_mark text at)))

-- Tokens from a place on, up to the end of the text, with nothing but blanks between them.
abbrev pub AreDocTokens : List ℕ → ℕ → List DocToken → Type 0
AreDocTokens text at [] = length text ≤ run_end text (blank_at text) at
AreDocTokens text at (t ∷ ts) =
    (t.start ≡ run_end text (blank_at text) at) × (t.start < t.end) × (t.end ≤ length text) × (doc_token text t.start ≡ (t.kind, t.end)) × AreDocTokens text t.end ts

-- ---- the tokens of a tag

-- without `phpstan-` in front
abbrev pub plain_word : List ℕ → List ℕ
plain_word word = if starts_with nat_eq word WINNING.now then drop (length WINNING.now) word else word

-- Whether a tag of this word wins over the plain ones.
abbrev pub wins : List ℕ → Bool
wins word = starts_with nat_eq word WINNING.now

-- the kind of a tag by its word without `@`
unfoldable pub tag_kind : List ℕ → DocKind
tag_kind word = kind_of_word tag_words k.OtherTag (plain_word word)

-- the word of a tag, without its `@`
abbrev pub tag_word : List ℕ → TagSpan → List ℕ
tag_word text span = slice_range text (span.start + 1) span.word_end

-- the token that is the tag's word
unfoldable pub tag_token : List ℕ → TagSpan → DocToken
tag_token text span = record { kind = tag_kind (tag_word text span); start = span.start; end = span.word_end }

-- The tokens of a tag are its word and those of its text.
abbrev pub AreTagTokens : List ℕ → TagSpan → List DocToken → Type 0
AreTagTokens text span [] = ⊥
AreTagTokens text span (t ∷ ts) = (t ≡ tag_token text span) × AreDocTokens (take span.end text) span.word_end ts

-- ---- what stands at a place of a list of tokens

abbrev pub kind_of : Option DocToken → DocKind
kind_of None = k.End
kind_of (Some t) = t.kind

unfoldable pub kind_at : List DocToken → ℕ → DocKind
kind_at ts at = kind_of (slice_get ts at)

abbrev pub Is : List DocToken → ℕ → DocKind → Type 0
Is ts at kind = kind_at ts at ≡ kind

abbrev pub Stands : List DocToken → ℕ → DocToken → Type 0
Stands ts at t = slice_get ts at ≡ Some t
