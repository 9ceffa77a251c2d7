-- Declarations and statements in a row, and the longest front of the tokens that they spell. The bodies of closures are held.
use Rattle.std.specs.Prelude.{◌≡◌, ◌⊎◌, ℕ, ◌≤◌, Bool, IsFalse, List, [], ◌∷◌, length}
use Rattle.stan_model_grammar.specs.declared.token.Token.{Token}
use Rattle.stan_model_grammar.specs.Files.{goes_on}
use Rattle.stan_model_grammar.specs.Strata.{kind_at}
use Rattle.stan_model_statements.specs.Symbols.{Top, One, Symbol, Part}
use Rattle.stan_model_statements.specs.Forests.{Forest}
use Rattle.stan_model_statements.specs.Takes.{IsForestOf, depth}

abbrev pub top : List Symbol
top = Part One Top ∷ []

module _ (ts : List Token) (named : Token → Bool) where
  -- each is the tree of its tokens, and at most 200 deep
  abbrev pub ReadsTops : List Forest → ℕ → ℕ → Type 0
  ReadsTops [] from to = from ≡ to
  ReadsTops (f ∷ fs) from to = (b : ℕ) × IsForestOf ts named top f from b × (depth f ≤ 200) × ReadsTops fs b to

  -- Unless there is none, no token follows that goes on with the last.
  abbrev pub IsFront : List Forest → ℕ → Type 0
  IsFront fs to = ReadsTops fs 0 to × ((fs ≡ []) ⊎ IsFalse (goes_on (kind_at ts to)))

  -- a front with as many as a front can have
  pub record IsLongestFront (fs : List Forest) (to : ℕ) : Type 0 where
    pub front : IsFront fs to
    pub longest : (gs : List Forest) (end : ℕ) → IsFront gs end → length gs ≤ length fs
