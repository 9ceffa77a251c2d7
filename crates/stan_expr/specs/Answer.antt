-- What the parser answers.
use Rattle.std.specs.Prelude.{ℕ, ◌+◌, ◌≤◌, ◌<◌, List}
use Rattle.stan_model_grammar.specs.declared.token.Token.{Token}
use Rattle.stan_model_grammar.specs.Depth.{depth}
use Rattle.stan_model_grammar.specs.Expressions.{Spells, IsEnd}
use Rattle.stan_model_grammar.specs.Takes.{IsTreeOf}
use Rattle.stan_model_grammar.specs.Trees.{Tree}
use Rattle.stan_syntax.specs.declared.tree.Expr.{Expr}
use Rattle.stan_syntax.specs.Tree.{tree_of}
use Rattle.stan_expr.specs.declared.parser.Parsed.{Parsed}
use Rattle.stan_expr.specs.declared.parser.Parsed.TheVariants.{Done, Absent}

-- The tree of the tokens up to an end, if it is not too deep. Without it no tree spells tokens up to an end, unless the tree of those
-- tokens is too deep.
abbrev pub Answers : List Token → ℕ → ℕ → Parsed Expr → Type 0
Answers ts at levels (Done e to) = IsTreeOf ts (tree_of e) at to × IsEnd ts to × (depth (tree_of e) + levels ≤ 200)
Answers ts at levels Absent = (t : Tree) (to : ℕ) → Spells ts t at to → IsEnd ts to → (g : Tree) × IsTreeOf ts g at to × (200 < depth g + levels)
