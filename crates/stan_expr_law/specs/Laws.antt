-- What holds of the trees of expressions: each is the contract of a function of the module `laws`.
use Rattle.std.specs.Prelude.{◌≡◌, ◌≢◌, ℕ, ◌<◌, ◌≤◌, IsTrue, List, length, ◌+◌}
use Rattle.stan_model_grammar.specs.declared.token.Token.{Token}
use Rattle.stan_model_grammar.specs.declared.token.TokenKind.{TokenKind}
use Rattle.stan_model_grammar.specs.declared.token.TokenKind.TheVariants as kinds
use Rattle.stan_model_grammar.specs.Trees.{Tree}
use Rattle.stan_model_grammar.specs.Strata.{kind_at, joins, is_end}
use Rattle.stan_model_grammar.specs.Expressions.{Spells}
use Rattle.stan_model_grammar.specs.Takes.{size, IsTreeOf}
use Rattle.stan_model_grammar.specs.Sites.{sites}
use Rattle.stan_expr_law.specs.Called.{IsBare, AreSites}

-- An expression's tree spells as many tokens as its size says.
abbrev pub TreesSpellTheirSize : Type 0
TreesSpellTheirSize = (ts : List Token) (t : Tree) (at to : ℕ) → Spells ts t at to → to ≡ at + size t

-- An expression's tree spells at least one token, and each of them stands in the list.
abbrev pub TreesStandInTheTokens : Type 0
TreesStandInTheTokens = (ts : List Token) (t : Tree) (at to : ℕ) → Spells ts t at to → (at < to) × (to ≤ length ts)

-- The tokens from one place to another have at most one tree.
abbrev pub OneTreeOfTokens : Type 0
OneTreeOfTokens = (ts : List Token) (t u : Tree) (at to : ℕ) → IsTreeOf ts t at to → IsTreeOf ts u at to → t ≡ u

-- A token that ends an expression goes on with none, whatever stands behind it.
abbrev pub EndsGoOnWithNothing : Type 0
EndsGoOnWithNothing = (kind next : TokenKind) → IsTrue (is_end kind) → joins kind next ≡ 30

-- The sites of an expression are, in order, all names that are called in it, and its held bodies. Neither `->`, `::` nor `new` stands
-- right before it, and no `(` right behind it.
abbrev pub CalledNamesAreSites : Type 0
CalledNamesAreSites = (ts : List Token) (t : Tree) (at to levels : ℕ) → Spells ts t at to → IsBare ts at → kind_at ts to ≢ kinds.LeftParenthesis → AreSites ts (sites levels t) at to
