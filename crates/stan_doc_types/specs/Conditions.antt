-- What the methods that read conditions give.
use Rattle.std.specs.Prelude.{ℕ, Bool, List, length, Option, Some, None}
use Rattle.stan_model_doc.specs.declared.token.DocToken.{DocToken}
use Rattle.stan_model_doc.specs.Rules as r
use Rattle.stan_model_doc.specs.Trees.{Forest, nil, mark, none, some}
use Rattle.stan_doc_descent.specs.Parse.{Read, Piece, ◌>>=◌, standing}
use Rattle.stan_doc_conditions.specs.Conditions as conditions
use Rattle.stan_doc_conditions.specs.Conditions.{parted_at, last_parted, condition}
use Rattle.stan_doc_levels.specs.Levels.{level}
use Rattle.stan_doc_trees.specs.declared.written.Written.{Written}
use Rattle.stan_doc_trees.specs.Tree.{written_of, negated}
use Rattle.stan_doc_parts.specs.Gives.{enter}
use Rattle.stan_doc_types.specs.declared.conditions.Branches.{Branches}
use Rattle.stan_doc_types.specs.declared.conditions.Test.{Test}

abbrev pub second_of : Written → Forest
second_of x = mark (standing (written_of x) (mark nil))

abbrev pub branches_of : Branches → Forest
branches_of x = standing (written_of x.then) (second_of x.otherwise)

abbrev pub test_of : Test → Forest
test_of x = standing (written_of x.tested) (mark (branches_of x.branches))

abbrev pub negated_of : Test → Forest
negated_of x = some r.negation (mark nil) (test_of x)

abbrev pub negatable_of : Bool × Test → Forest
negatable_of x = negated x.0 (test_of x.1)

-- the `:`, the second branch and the bracket, and the branches, with so many levels
unfoldable pub second : List DocToken → ℕ → ℕ → Read Forest
second ts n at = conditions.second ts (level n) at

abbrev pub parted : List DocToken → ℕ → ℕ → ℕ → Read Forest
parted ts n from place = parted_at ts (level n) (conditions.second ts (level n)) from place

unfoldable pub branches : List DocToken → ℕ → ℕ → Read Forest
branches ts n from = last_parted ts (level n) (conditions.second ts (level n)) from (length ts)

unfoldable pub conditional : List DocToken → ℕ → ℕ → Read Piece
conditional ts n at = enter n >>= λ m. condition ts (level m) at >>= λ p. Some ((r.conditional, p.0), p.1)
