-- What holds of every text: each is the contract of a function of the module `laws`.
use Rattle.std.specs.Prelude.{◌≡◌, ◌⊎◌, ℕ, List}
use Rattle.stan_model_neon.specs.declared.node.Node.{Node}
use Rattle.stan_neon.specs.Texts.{IsTreeOf, IsBadAt}

-- Every text has a tree, or is bad at a line.
abbrev pub EveryTextIsAnswered : Type 0
EveryTextIsAnswered = (text : List ℕ) → ((node : Node) × IsTreeOf text node) ⊎ ((line : ℕ) × IsBadAt text line)

-- A text has one tree.
abbrev pub OneTree : Type 0
OneTree = (text : List ℕ) (a b : Node) → IsTreeOf text a → IsTreeOf text b → a ≡ b

-- A text is bad at one line.
abbrev pub OneBadLine : Type 0
OneBadLine = (text : List ℕ) (a b : ℕ) → IsBadAt text a → IsBadAt text b → a ≡ b

-- A text with a tree is bad at no line.
abbrev pub TreeOrBad : Type 0
TreeOrBad = (text : List ℕ) (node : Node) (line : ℕ) → IsTreeOf text node → IsBadAt text line → ⊥
