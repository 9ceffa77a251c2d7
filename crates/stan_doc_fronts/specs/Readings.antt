-- What a comment says is settled by its bytes.
use Rattle.std.specs.Prelude.{◌≡◌, ℕ, List}
use Rattle.stan_model_doc.specs.Doc.{DocTag, IsDocReading}

-- Every comment has a reading, whatever its bytes, and no other one.
abbrev pub EveryCommentHasAReading : Type 0
EveryCommentHasAReading = (comment : List ℕ) → (tags : List DocTag) × IsDocReading comment tags × ((others : List DocTag) → IsDocReading comment others → others ≡ tags)
