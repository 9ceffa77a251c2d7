-- What the comment of a PHPDoc says: its known tags, in order.
use Rattle.std.specs.Prelude.{◌≡◌, ℕ, Bool, true, false, ◌&&◌, not, if◌then◌else◌, MatchBool, List, [], ◌∷◌, Option, Some, None}
use Rattle.stan_model_doc.specs.declared.token.DocKind.TheVariants as k
use Rattle.stan_model_doc.specs.declared.token.DocToken.{DocToken}
use Rattle.stan_model_doc.specs.declared.token.TagSpan.{TagSpan}
use Rattle.stan_model_doc.specs.Comment.{doc_text, tag_spans}
use Rattle.stan_model_doc.specs.Tokens.{same_kind, tag_kind, tag_word, wins, AreTagTokens}
use Rattle.stan_model_doc.specs.Trees.{Forest}
use Rattle.stan_model_doc.specs.Fronts.{IsLongestFront, HasNoFront}

-- a tag with what its longest front spells, or one of whose text no front is in the grammar
pub data DocTag : Type 0 where
  ReadTag : TagSpan → Forest → DocTag
  BadTag : TagSpan → DocTag

abbrev pub span_of : DocTag → TagSpan
span_of (ReadTag span tree) = span
span_of (BadTag span) = span

abbrev pub is_known : List ℕ → TagSpan → Bool
is_known text span = not (same_kind (tag_kind (tag_word text span)) k.OtherTag)

-- The reading of one tag of a comment's text.
abbrev pub IsTagReading : List ℕ → DocTag → Type 0
IsTagReading text (ReadTag span tree) = (ts : List DocToken) × (to : ℕ) × AreTagTokens text span ts × IsLongestFront ts tree to
IsTagReading text (BadTag span) = (ts : List DocToken) × AreTagTokens text span ts × HasNoFront ts

-- The readings of the known ones of these tags, in order. Other tags mean nothing.
abbrev pub AreReadings : List ℕ → List TagSpan → List DocTag → Type 0
AreReadings text [] [] = Unit {0}
AreReadings text [] (tag ∷ tags) = ⊥
AreReadings text (span ∷ spans) [] = MatchBool (is_known text span) ⊥ (AreReadings text spans [])
AreReadings text (span ∷ spans) (tag ∷ tags) =
    MatchBool (is_known text span) ((span_of tag ≡ span) × IsTagReading text tag × AreReadings text spans tags) (AreReadings text spans (tag ∷ tags))

-- The reading of a comment.
abbrev pub IsDocReading : List ℕ → List DocTag → Type 0
IsDocReading comment tags = let text = doc_text comment in AreReadings text (tag_spans text) tags

-- ---- which of several tags counts

-- the first tag that says something of this kind, plain or with `phpstan-`
abbrev pub first_tag : List ℕ → Bool → (Forest → Bool) → List DocTag → Option Forest
first_tag text winning speaks [] = None
first_tag text winning speaks (BadTag span ∷ tags) = first_tag text winning speaks tags
first_tag text winning speaks (ReadTag span tree ∷ tags) =
    if same winning (wins (tag_word text span)) && speaks tree then Some tree else first_tag text winning speaks tags
  where
    same : Bool → Bool → Bool
    same true b = b
    same false b = not b

abbrev pub or_else : Option Forest → Option Forest → Option Forest
or_else (Some tree) other = Some tree
or_else None other = other

-- Of several tags for one thing the first counts, and one with `phpstan-` before it counts before the plain ones. A bad tag says nothing.
abbrev pub counting_tag : List ℕ → (Forest → Bool) → List DocTag → Option Forest
counting_tag text speaks tags = or_else (first_tag text true speaks tags) (first_tag text false speaks tags)
