-- A comment is read tag by tag: each known one has a reading.
use Rattle.std.proofs.Common.{◌≡◌, ℕ, List, [], ◌∷◌, Bool, true, false, Option, Some, None, refl}
use Rattle.stan_model_doc.specs.declared.token.DocToken.{DocToken}
use Rattle.stan_model_doc.specs.declared.token.TagSpan.{TagSpan}
use Rattle.stan_model_doc.specs.Comment.{doc_text, tag_spans}
use Rattle.stan_model_doc.specs.Tokens.{AreTagTokens}
use Rattle.stan_model_doc.specs.Trees.{Forest}
use Rattle.stan_model_doc.specs.Doc.{DocTag, ReadTag, BadTag, span_of, is_known, IsTagReading, AreReadings}
use Rattle.stan_doc_law.proofs.TokenLemmas.{every_tag_has_tokens}
use Rattle.stan_doc_law.proofs.ReadingLemmas.{one_reading}
use Rattle.stan_doc_fronts.specs.Fronts.{longest_front, IsReadingOf}
use Rattle.stan_doc_fronts.specs.Readings.{EveryCommentHasAReading}
use Rattle.stan_doc_fronts.proofs.FrontLemmas.{every_tag_has_a_reading}

module _ (text : List ℕ) where
  abbrev TagReading : TagSpan → Type 0
  TagReading span = (tag : DocTag) × (span_of tag ≡ span) × IsTagReading text tag

  tag_read : (span : TagSpan) → TagReading span
  tag_read span = let tokens = every_tag_has_tokens text span in by tokens.0 tokens.1 (longest_front tokens.0) (every_tag_has_a_reading tokens.0)
    where
      by : (ts : List DocToken) → AreTagTokens text span ts → (o : Option (Forest × ℕ)) → IsReadingOf ts o → TagReading span
      by ts are None h = (BadTag span, refl, (ts, are, h))
      by ts are (Some x) h = (ReadTag span x.0, refl, (ts, x.1, are, h))

  passed : (span : TagSpan) (spans : List TagSpan) (tags : List DocTag) → is_known text span ≡ false → AreReadings text spans tags → AreReadings text (span ∷ spans) tags
  passed span spans [] e h = rw e h
  passed span spans (tag ∷ tags) e h = rw e h

  all_read : (spans : List TagSpan) → (tags : List DocTag) × AreReadings text spans tags
  all_read [] = ([], tt)
  all_read (span ∷ spans) = by (is_known text span) refl (all_read spans)
    where
      by : (b : Bool) → is_known text span ≡ b → (tags : List DocTag) × AreReadings text spans tags → (tags : List DocTag) × AreReadings text (span ∷ spans) tags
      by true e more = let first = tag_read span in (first.0 ∷ more.0, rw e (first.1, first.2, more.1))
      by false e more = (more.0, passed span spans more.0 e more.1)

pub every_comment_has_a_reading : EveryCommentHasAReading
every_comment_has_a_reading comment =
    let read = all_read (doc_text comment) (tag_spans (doc_text comment)) in
    (read.0, read.1, λ others h. one_reading comment others read.0 h read.1)
