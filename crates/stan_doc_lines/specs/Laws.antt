-- What holds of the tags of every text.
use Rattle.std.specs.Prelude.{◌≡◌, ℕ, ◌<◌, ◌≤◌, IsTrue, List, length}
use Rattle.stan_model_doc.specs.declared.token.TagSpan.{TagSpan}
use Rattle.stan_model_doc.specs.Comment.{begins_tag, doc_text, text_end}

-- A tag begins with its `@`, its word ends behind it, its text behind that, and all of it stands within the comment's text.
pub record IsPlaced (text : List ℕ) (tag : TagSpan) : Type 0 where
  pub sign : IsTrue (begins_tag text tag.start)
  pub word : tag.start < tag.word_end
  pub text_behind : tag.word_end ≤ tag.end
  pub within : tag.end ≤ length text

-- The text of a comment is as long as the comment up to its `*/`, so that places stay.
abbrev pub PlacesStay : Type 0
PlacesStay = (comment : List ℕ) → length (doc_text comment) ≡ text_end comment
