-- What holds of the values of every line: each is the contract of a function of the module `laws`.
use Rattle.std.specs.Prelude.{◌≡◌, ◌↔◌, ℕ, IsTrue, List, Some}
use Rattle.std.specs.Str.{IsUtf8}
use Rattle.stan_model_neon.specs.Nodes.{Text}
use Rattle.stan_neon_scalars.specs.Quotes.{ends}
use Rattle.stan_neon_scalars.specs.Scalars.{value}
use Rattle.stan_neon_laws.specs.PlainTexts.{IsPlainText, IsEnd}
use Rattle.stan_neon_laws.specs.Quoting.{in_double_quotes, in_single_quotes}

-- A text that is written between `"` is read back.
abbrev pub DoubleQuotesKeepTexts : Type 0
DoubleQuotesKeepTexts = (text : List ℕ) → IsUtf8 text → value (in_double_quotes text) ≡ Some (Text text)

-- A text that is written between `'` is read back.
abbrev pub SingleQuotesKeepTexts : Type 0
SingleQuotesKeepTexts = (text : List ℕ) → IsUtf8 text → value (in_single_quotes text) ≡ Some (Text text)

-- A plain text that is no word and no number is read as itself.
abbrev pub PlainTextsAreKept : Type 0
PlainTextsAreKept = (text : List ℕ) → IsPlainText text → value text ≡ Some (Text text)

-- A line ends with blanks, or with a blank and a remark.
abbrev pub LinesEnd : Type 0
LinesEnd = (bytes : List ℕ) → IsTrue (ends bytes) ↔ IsEnd bytes
