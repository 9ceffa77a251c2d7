-- Lists of parts, as the trees hold them.
use Rattle.std.specs.Prelude.{ℕ, Bool, List, [], ◌∷◌, Option, Some, None}
use Rattle.stan_model_grammar.specs.declared.operators.BinaryOperator.{BinaryOperator}
use Rattle.stan_model_grammar.specs.declared.token.Token.{Token}
use Rattle.stan_model_grammar.specs.Strata.{binary_stratum}
use Rattle.stan_model_grammar.specs.Trees.{Tree, Item, Items, no_item, items, Step, Steps, no_step, step, Further, Operation, Arguments, no_arguments, arguments, Default, no_default, default, Statement, Statements, no_statement, statement}

-- an operator with the operand behind it
pub record Operated : Type 0 where
  pub token : Token
  pub operator : BinaryOperator
  pub operand : Tree

abbrev pub steps : List Step → Steps
steps [] = no_step
steps (x ∷ xs) = step x (steps xs)

abbrev pub furthers : List Item → Steps
furthers [] = no_step
furthers (x ∷ xs) = step (Further x) (furthers xs)

abbrev pub listed : List Item → Bool → Items
listed [] comma = no_item
listed (x ∷ xs) comma = items x (furthers xs) comma

abbrev pub operation_steps : List Operated → Steps
operation_steps [] = no_step
operation_steps (o ∷ os) = step (Operation o.token o.operator o.operand) (operation_steps os)

-- the stratum of a chain, which is that of its first operator
abbrev pub chain_stratum : List Operated → ℕ
chain_stratum [] = 0
chain_stratum (o ∷ os) = binary_stratum o.operator

abbrev pub may_be_called : Option Items → Arguments
may_be_called None = no_arguments
may_be_called (Some es) = arguments es

abbrev pub default_of : Option Tree → Default
default_of None = no_default
default_of (Some e) = default e

abbrev pub statements : List Statement → Statements
statements [] = no_statement
statements (s ∷ ss) = statement s (statements ss)
