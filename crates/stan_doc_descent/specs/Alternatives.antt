-- Alternatives that begin alike: the earlier one is longer where it stands, or counts before.
use Rattle.std.specs.Prelude.{◌≡◌, ◌⊎◌, ℕ, ◌≤◌, ◌<◌, false, List, [], ◌∷◌, length, Some}
use Rattle.stan_model_doc.specs.declared.token.DocToken.{DocToken}
use Rattle.stan_model_doc.specs.Rules.{Rule, fields, symbols, sort_of, order}
use Rattle.stan_model_doc.specs.Trees.{Forest}
use Rattle.stan_model_doc.specs.Grammar.{Runs}
use Rattle.stan_model_doc.specs.Choices.{Better, left}
use Rattle.stan_doc_descent.specs.Parse.{Read, run, height}
use Rattle.stan_doc_descent.specs.Tables.{rule_goes, is_tag, is_special}
use Rattle.stan_doc_descent.specs.Descent.{IsSound, Reaches, Outgrown, ReadsParts}

abbrev pub In : Rule → List Rule → Type 0
In r [] = ⊥
In r (q ∷ rs) = (q ≡ r) ⊎ In r rs

-- One of the rules stands before the other.
abbrev pub Before : Rule → Rule → List Rule → Type 0
Before q r [] = ⊥
Before q r (x ∷ rs) = ((x ≡ q) × In r rs) ⊎ Before q r rs

-- The earlier one counts before. It spells the same, or it is longer, and the later one ends at a token with which it goes on.
abbrev pub Beaten : List DocToken → Rule → Rule → ℕ → ℕ → Type 0
Beaten ts q r e b = (left r < left q) × Reaches ts (rule_goes r) b e

abbrev pub EarlierAlternativesAreLonger : Type 0
EarlierAlternativesAreLonger = (ts : List DocToken) (q r : Rule) (g ps : Forest) (at e b : ℕ) → Before q r (order (sort_of r))
    → Runs ts (symbols q) g at e → Runs ts (symbols r) ps at b → Beaten ts q r e b

-- What is read of a production counts before each other tree of it, or is that tree. It is as long, or longer, and the token behind that tree is one with which it goes on.
abbrev pub ReadsProduction : List DocToken → Rule → Forest → ℕ → Read Forest → Type 0
ReadsProduction ts r ps b o = (x : Forest × ℕ) × (o ≡ Some x) × (Better (symbols r) x.0 ps ⊎ Outgrown r ps x.0) × Reaches ts (rule_goes r) b x.1

abbrev pub ReadsProductions : List DocToken → (Rule → ℕ → Read Forest) → ℕ → Type 0
ReadsProductions ts below n = (r : Rule) (ps : Forest) (at b : ℕ) → is_tag (sort_of r) ≡ false → height ps < n → b ≤ length ts → Runs ts (symbols r) ps at b → ReadsProduction ts r ps b (below r at)

-- Where each production that nests less than so deep is read or a longer one, each part is.
abbrev pub PartsAreRead : Type 0
PartsAreRead = (ts : List DocToken) (below : Rule → ℕ → Read Forest) (n : ℕ) → IsSound ts below n → ReadsProductions ts below n → ReadsParts ts below n

-- Then the descent reads each production that passes the test, one level deeper.
abbrev pub PlainProductionsAreRead : Type 0
PlainProductionsAreRead = (ts : List DocToken) (below : Rule → ℕ → Read Forest) (n : ℕ) → IsSound ts below n → ReadsProductions ts below n
    → (r : Rule) (ps : Forest) (at b : ℕ) → is_special r ≡ false → height ps ≤ n → b ≤ length ts → Runs ts (symbols r) ps at b → ReadsProduction ts r ps b (run ts below (symbols r) at)

-- So it reads fields, where a comma stands behind the last one or doesn't.
abbrev pub FieldsAreRead : Type 0
FieldsAreRead = (ts : List DocToken) (below : Rule → ℕ → Read Forest) (n : ℕ) → IsSound ts below n → ReadsProductions ts below n
    → (ps : Forest) (at b : ℕ) → height ps ≤ n → b ≤ length ts → Runs ts (symbols fields) ps at b → ReadsProduction ts fields ps b (run ts below (symbols fields) at)
