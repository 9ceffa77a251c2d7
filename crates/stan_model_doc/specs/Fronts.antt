-- How far the tokens of a tag are read.
use Rattle.std.specs.Prelude.{ℕ, ◌≤◌, List, [], ◌∷◌}
use Rattle.stan_model_doc.specs.declared.token.DocToken.{DocToken}
use Rattle.stan_model_doc.specs.Symbols.{Tag, One, Symbol, Part}
use Rattle.stan_model_doc.specs.Trees.{Forest}
use Rattle.stan_model_doc.specs.Grammar.{Runs}
use Rattle.stan_model_doc.specs.Choices.{Better}
use Rattle.stan_model_doc.specs.Depth.{depth}

abbrev pub tag : List Symbol
tag = Part One Tag ∷ []

-- The tree of the tokens before a place: of all trees that spell them the one that counts before the others.
pub record IsTree (ts : List DocToken) (f : Forest) (to : ℕ) : Type 0 where
  pub spells : Runs ts tag f 0 to
  pub first : (g : Forest) → Runs ts tag g 0 to → Better tag f g

-- Tokens whose tree is not too deep.
pub record IsFront (ts : List DocToken) (f : Forest) (to : ℕ) : Type 0 where
  pub tree : IsTree ts f to
  pub flat : depth f ≤ 64

-- The longest front of the tokens, which is what is read. What stands behind it is a remark.
pub record IsLongestFront (ts : List DocToken) (f : Forest) (to : ℕ) : Type 0 where
  pub front : IsFront ts f to
  pub longest : (g : Forest) (end : ℕ) → IsFront ts g end → end ≤ to

-- No front is in the grammar.
abbrev pub HasNoFront : List DocToken → Type 0
HasNoFront ts = (g : Forest) (end : ℕ) → IsFront ts g end → ⊥
