use Rattle.std.proofs.Common.{◌≡◌, ◌+◌, ◌-◌, ◌^◌, take, min}
use Rattle.stan_model_grammar.specs.Depth.{depth, item_depth, statement_depth, step_depth}
use Rattle.stan_syntax.specs.Depth.{greatest}
use Rattle.stan_syntax.specs.Tree.{argument_of, arm_of, element_of, operation_of, parameter_of, part_of, statement_of, suffix_of, tree_of}
use Rattle.stan_syntax.proofs.depth.+depths.Given as goal

abbrev pub invariant-listed_depth-loop-argument : goal.invariant-listed_depth-loop-argument
invariant-listed_depth-loop-argument l = l.most ≡ min (greatest (λ x. item_depth (argument_of x)) (take l.argument-index l.arguments)) (2 ^ 32 - 1)

abbrev pub invariant-arms_depth-loop-arm : goal.invariant-arms_depth-loop-arm
invariant-arms_depth-loop-arm l = l.most ≡ min (greatest (λ x. item_depth (arm_of x)) (take l.arm-index l.arms)) (2 ^ 32 - 1)

abbrev pub invariant-elements_depth-loop-element : goal.invariant-elements_depth-loop-element
invariant-elements_depth-loop-element l = l.most ≡ min (greatest (λ x. item_depth (element_of x)) (take l.element-index l.elements)) (2 ^ 32 - 1)

abbrev pub invariant-exprs_depth-loop-e : goal.invariant-exprs_depth-loop-e
invariant-exprs_depth-loop-e l = l.most ≡ min (greatest (λ e. depth (tree_of e)) (take l.e-index l.es)) (2 ^ 32 - 1)

abbrev pub invariant-operations_depth-loop-operation : goal.invariant-operations_depth-loop-operation
invariant-operations_depth-loop-operation l = l.most ≡ min (greatest (λ x. depth (operation_of x).operand + 1) (take l.operation-index l.operations)) (2 ^ 32 - 1)

abbrev pub invariant-parameters_depth-loop-parameter : goal.invariant-parameters_depth-loop-parameter
invariant-parameters_depth-loop-parameter l = l.most ≡ min (greatest (λ x. item_depth (parameter_of x)) (take l.parameter-index l.parameters)) (2 ^ 32 - 1)

abbrev pub invariant-parts_depth-loop-part : goal.invariant-parts_depth-loop-part
invariant-parts_depth-loop-part l = l.most ≡ min (greatest (λ x. step_depth (part_of x)) (take l.part-index l.parts)) (2 ^ 32 - 1)

abbrev pub invariant-statements_depth-loop-statement : goal.invariant-statements_depth-loop-statement
invariant-statements_depth-loop-statement l = l.most ≡ min (greatest (λ x. statement_depth (statement_of x)) (take l.statement-index l.statements)) (2 ^ 32 - 1)

abbrev pub invariant-suffixes_depth-loop-suffix : goal.invariant-suffixes_depth-loop-suffix
invariant-suffixes_depth-loop-suffix l = l.most ≡ min (greatest (λ x. step_depth (suffix_of x)) (take l.suffix-index l.suffixes)) (2 ^ 32 - 1)
