-- The tags of a text, first each up to the text's end, and then each up to the next one.
use Rattle.std.specs.Prelude.{ℕ, ◌+◌, List, [], ◌∷◌, length, Bool, true, false}
use Rattle.stan_base.specs.Bytes.{line_of}
use Rattle.stan_model_grammar.specs.Runs.{run_end}
use Rattle.stan_model_doc.specs.declared.token.TagSpan.{TagSpan}
use Rattle.stan_model_doc.specs.Comment.{tag_word_at}

-- the tag of a line at a place, up to the end of the text
abbrev pub open_span : List ℕ → ℕ → ℕ → TagSpan
open_span text line place = record { line = line; start = place; word_end = run_end text (tag_word_at text) (place + 1); end = length text }

abbrev pub open_tag : List ℕ → ℕ → TagSpan
open_tag text place = open_span text (line_of text place) place

-- a tag, if one stands there
abbrev pub with_tag : Bool → TagSpan → List TagSpan
with_tag true tag = tag ∷ []
with_tag false tag = []

-- the place of the first tag, or another one
abbrev pub first_start : List TagSpan → ℕ → ℕ
first_start [] other = other
first_start (tag ∷ tags) other = tag.start

abbrev pub up_to : ℕ → TagSpan → TagSpan
up_to end tag = record tag { end = end }

-- the same tags, each up to the next one
abbrev pub closed_tags : ℕ → List TagSpan → List TagSpan
closed_tags end [] = []
closed_tags end (tag ∷ tags) = up_to (first_start tags end) tag ∷ closed_tags end tags
