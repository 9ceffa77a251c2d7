-- What holds of the tree of the tokens: each is the contract of a function of the module `laws`.
use Rattle.std.specs.Prelude.{◌≡◌, ℕ, List}
use Rattle.stan_model_grammar.specs.declared.token.Token.{Token}
use Rattle.stan_model_grammar.specs.Expressions.{Spells, IsEnd}
use Rattle.stan_model_grammar.specs.Takes.{IsTreeOf}
use Rattle.stan_model_grammar.specs.Trees.{Tree}

-- Where a tree spells the tokens up to an end, they have a tree.
abbrev pub TokensHaveATree : Type 0
TokensHaveATree = (ts : List Token) (t : Tree) (at to : ℕ) → Spells ts t at to → IsEnd ts to → (g : Tree) × IsTreeOf ts g at to

-- The expressions that begin at a place and are followed by an end token end at one place.
abbrev pub ExpressionsEndAtOnePlace : Type 0
ExpressionsEndAtOnePlace = (ts : List Token) (t u : Tree) (at to end : ℕ) → Spells ts t at to → IsEnd ts to → Spells ts u at end → IsEnd ts end → to ≡ end
