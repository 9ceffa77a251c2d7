-- An atom and its `[]`, of which those behind `callable(): A` belong to `A`.
use Rattle.std.specs.Prelude.{ℕ, ◌≤◌, List, length}
use Rattle.stan_model_doc.specs.declared.token.DocToken.{DocToken}
use Rattle.stan_model_doc.specs.Rules.{Rule, symbols, suffixed}
use Rattle.stan_model_doc.specs.Trees.{Forest}
use Rattle.stan_model_doc.specs.Grammar.{Runs}
use Rattle.stan_doc_descent.specs.Parse.{Read, run, height}
use Rattle.stan_doc_descent.specs.Descent.{IsSound}
use Rattle.stan_doc_descent.specs.Alternatives.{ReadsProduction, ReadsProductions}

-- The descent reads an atom and its `[]`, one level deeper than what it stands on.
abbrev pub SuffixesAreRead : Type 0
SuffixesAreRead = (ts : List DocToken) (below : Rule → ℕ → Read Forest) (n : ℕ) → IsSound ts below n → ReadsProductions ts below n
    → (ps : Forest) (at b : ℕ) → height ps ≤ n → b ≤ length ts → Runs ts (symbols suffixed) ps at b → ReadsProduction ts suffixed ps b (run ts below (symbols suffixed) at)
