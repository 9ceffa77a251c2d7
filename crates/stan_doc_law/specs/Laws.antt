-- What holds of the tokens of every tag: each is the contract of a function of the module `laws`.
use Rattle.std.specs.Prelude.{◌≡◌, ℕ, ◌+◌, ◌≤◌, ◌<◌, List, length}
use Rattle.std.specs.List.{All, AllPairs}
use Rattle.stan_model_doc.specs.declared.token.DocToken.{DocToken}
use Rattle.stan_model_doc.specs.declared.token.TagSpan.{TagSpan}
use Rattle.stan_model_doc.specs.Tokens.{AreDocTokens, AreTagTokens}
use Rattle.stan_model_doc.specs.Symbols.{Symbol}
use Rattle.stan_model_doc.specs.Trees.{Forest}
use Rattle.stan_model_doc.specs.Grammar.{Runs}
use Rattle.stan_model_doc.specs.Choices.{size}
use Rattle.stan_model_doc.specs.Fronts.{IsLongestFront}
use Rattle.stan_model_doc.specs.Doc.{DocTag, IsDocReading}

-- Every tag has tokens, whatever its bytes.
abbrev pub EveryTagHasTokens : Type 0
EveryTagHasTokens = (text : List ℕ) (span : TagSpan) → (ts : List DocToken) × AreTagTokens text span ts

-- A tag has one list of tokens.
abbrev pub OneTokenList : Type 0
OneTokenList = (text : List ℕ) (span : TagSpan) (ts us : List DocToken) → AreTagTokens text span ts → AreTagTokens text span us → ts ≡ us

-- Each token of a text has a byte, stands within the text, and ends before the later ones begin.
abbrev pub TokensStandInOrder : Type 0
TokensStandInOrder = (text : List ℕ) (at : ℕ) (ts : List DocToken) → AreDocTokens text at ts → All (λ t. (t.start < t.end) × (t.end ≤ length text)) ts × AllPairs (λ t u. t.end ≤ u.start) ts

-- A tree spells as many tokens as its size says.
abbrev pub TreesSpellTheirSize : Type 0
TreesSpellTheirSize = (ts : List DocToken) (xs : List Symbol) (f : Forest) (from to : ℕ) → Runs ts xs f from to → to ≡ from + size f

-- Tokens have one longest front and one tree of it.
abbrev pub OneLongestFront : Type 0
OneLongestFront = (ts : List DocToken) (f g : Forest) (to end : ℕ) → IsLongestFront ts f to → IsLongestFront ts g end → (f ≡ g) × (to ≡ end)

-- A comment has one reading.
abbrev pub OneReading : Type 0
OneReading = (comment : List ℕ) (tags others : List DocTag) → IsDocReading comment tags → IsDocReading comment others → tags ≡ others
