-- Which tokens are names of functions that are called, as the tokens alone tell it, and which sites are all of them.
use Rattle.std.specs.Prelude.{◌≡◌, ℕ, ◌+◌, ◌<◌, ◌≤◌, Bool, true, false, IsTrue, IsFalse, List, [], ◌∷◌, Option, Some}
use Rattle.stan_model_grammar.specs.declared.operators.Leaf.{Leaf}
use Rattle.stan_model_grammar.specs.declared.operators.Leaf.TheVariants as leaves
use Rattle.stan_model_grammar.specs.declared.token.Token.{Token}
use Rattle.stan_model_grammar.specs.declared.token.TokenKind.{TokenKind}
use Rattle.stan_model_grammar.specs.declared.token.TokenKind.TheVariants as kinds
use Rattle.stan_model_grammar.specs.Strata.{kind_at, leaf_of}
use Rattle.stan_model_grammar.specs.Trees.{Held}
use Rattle.stan_model_grammar.specs.Expressions.{Is, Stands, Bodies}
use Rattle.stan_model_grammar.specs.Sites.{Site, CallSite, BodySite}

abbrev pub is_name_leaf : Option Leaf → Bool
is_name_leaf (Some leaves.Name) = true
is_name_leaf _ = false

abbrev pub is_name : TokenKind → Bool
is_name kind = is_name_leaf (leaf_of kind)

-- The name of a member or of a class stands behind it.
abbrev pub names_no_function : TokenKind → Bool
names_no_function kinds.Arrow = true
names_no_function kinds.NullsafeArrow = true
names_no_function kinds.DoubleColon = true
names_no_function kinds.New = true
names_no_function _ = false

-- no such token stands right before the place
abbrev pub IsBare : List Token → ℕ → Type 0
IsBare ts at = (before : ℕ) → before + 1 ≡ at → IsFalse (names_no_function (kind_at ts before))

-- The name of a function that is called stands there.
pub record IsCalled (ts : List Token) (at : ℕ) : Type 0 where
  pub name : IsTrue (is_name (kind_at ts at))
  pub opened : Is ts (at + 1) kinds.LeftParenthesis
  pub bare : IsBare ts at

abbrev pub NoneCalled : List Token → ℕ → ℕ → Type 0
NoneCalled ts from to = (at : ℕ) → from ≤ at → at < to → IsCalled ts at → ⊥

-- The sites are, in order, all names that are called from one place to the other, and the held bodies, within which none is a site.
abbrev pub AreSites : List Token → List Site → ℕ → ℕ → Type 0
AreSites ts [] from to = NoneCalled ts from to
AreSites ts (CallSite t ∷ xs) from to = (at : ℕ) × (from ≤ at) × (at < to) × NoneCalled ts from at × IsCalled ts at × Stands ts at t × AreSites ts xs (at + 1) to
AreSites ts (BodySite b ∷ xs) from to = (at end : ℕ) × (from ≤ at) × (end ≤ to) × NoneCalled ts from at
    × Bodies ts (λ low k at. Unit {0}) (Held b.first b.last) at end × AreSites ts xs end to
