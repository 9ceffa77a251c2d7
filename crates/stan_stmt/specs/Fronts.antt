-- Declarations and statements from the first token on, as many as there are.
use Rattle.std.specs.Prelude.{◌≡◌, ℕ, ◌≤◌, IsFalse, List, length, Option, Some, None, map}
use Rattle.stan_model_grammar.specs.declared.token.Token.{Token}
use Rattle.stan_model_grammar.specs.Files.{goes_on}
use Rattle.stan_model_grammar.specs.Strata.{kind_at}
use Rattle.stan_model_statements.specs.Symbols as sorts
use Rattle.stan_model_statements.specs.TreeLists as lists
use Rattle.stan_model_statements.specs.Trees.{Tops}
use Rattle.stan_model_readings.specs.Fronts.{is_strict_types}
use Rattle.stan_stmt_parts.specs.Gives.{Leaves, part}
use Rattle.stan_stmt_parts.specs.Parse.{Piece}
use Rattle.stan_stmt_parts.specs.declared.depth.Depth.{Depth}
use Rattle.stan_stmt_tops.specs.Views.{top_piece}
use Rattle.stan_stmt_trees.specs.Files.{top_of}
use Rattle.stan_stmt_trees.specs.declared.top.Top.{Top}
use Rattle.stan_model_readings.specs.Fronts.{IsLongestFront}
use Rattle.stan_stmt.specs.declared.fronts.Front.{Front}

-- What is read there, with no token behind it that goes on with it, or that there is no such thing.
abbrev pub NextIs : List Token → Leaves → Depth → ℕ → Option (Top × ℕ) → Type 0
NextIs ts l d at None = (p : Piece) (b : ℕ) → part ts l d sorts.Top at ≡ Some (p, b) → IsFalse (goes_on (kind_at ts b)) → ⊥
NextIs ts l d at (Some x) = (part ts l d sorts.Top at ≡ Some (top_piece x.0, x.1)) × IsFalse (goes_on (kind_at ts x.1))

abbrev pub tops_of : List Top → Tops
tops_of xs = lists.tops (map top_of xs)

-- the longest front of these tokens
abbrev pub IsFrontOf : List ℕ → List Token → Front → Type 0
IsFrontOf source ts f = IsLongestFront ts (is_strict_types source) (tops_of f.tops) f.to × (f.to ≤ length ts)
