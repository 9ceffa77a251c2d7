-- What holds of the trees of declarations and statements: each is the contract of a function of the module `laws`.
use Rattle.std.specs.Prelude.{◌≡◌, ℕ, ◌<◌, Bool, IsTrue, IsFalse, List, length}
use Rattle.stan_model_grammar.specs.declared.token.Token.{Token}
use Rattle.stan_model_grammar.specs.Files.{goes_on}
use Rattle.stan_model_grammar.specs.Strata.{kind_at}
use Rattle.stan_model_statements.specs.Forests.{Forest}
use Rattle.stan_model_statements.specs.Grammar.{Spells}
use Rattle.stan_model_statements.specs.Takes.{IsForestOf}
use Rattle.stan_model_statements.specs.Tops.{top, ReadsTops, IsLongestFront}

-- The tokens from one place to another have at most one tree.
abbrev pub OneForestOfTokens : Type 0
OneForestOfTokens = (ts : List Token) (named : Token → Bool) (f g : Forest) (at to : ℕ) → IsForestOf ts named top f at to → IsForestOf ts named top g at to → f ≡ g

-- Where a declaration or a statement spells tokens, and no token follows that goes on with it, they have a tree.
abbrev pub TokensHaveAForest : Type 0
TokensHaveAForest = (ts : List Token) (named : Token → Bool) (f : Forest) (at to : ℕ) → Spells ts named top f at to → IsFalse (goes_on (kind_at ts to)) → (g : Forest) × IsForestOf ts named top g at to

-- What a declaration or a statement spells is no front of what another one spells, unless `else`, `elseif`, `catch` or `finally` follows.
abbrev pub NoTopIsAFront : Type 0
NoTopIsAFront = (ts : List Token) (named : Token → Bool) (f g : Forest) (at to end : ℕ) → Spells ts named top f at to → Spells ts named top g at end → to < end → IsTrue (goes_on (kind_at ts to))

-- All the tokens are read in at most one way.
abbrev pub OneFileOfTokens : Type 0
OneFileOfTokens = (ts : List Token) (named : Token → Bool) (fs gs : List Forest) → ReadsTops ts named fs 0 (length ts) → ReadsTops ts named gs 0 (length ts) → fs ≡ gs

-- Every list of tokens has a longest front of declarations and statements, and one alone.
abbrev pub TokensHaveALongestFront : Type 0
TokensHaveALongestFront = (ts : List Token) (named : Token → Bool) → (fs : List Forest) × (to : ℕ) × IsLongestFront ts named fs to

abbrev pub OneLongestFront : Type 0
OneLongestFront = (ts : List Token) (named : Token → Bool) (fs gs : List Forest) (to end : ℕ) → IsLongestFront ts named fs to → IsLongestFront ts named gs end → (fs ≡ gs) × (to ≡ end)
