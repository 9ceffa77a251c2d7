use Rattle.std.proofs.Common.{◌≡◌, ◌++◌, map, take}
use Rattle.std.specs.List.{flat_map}
use Rattle.stan_model_walk.specs.Findings.{found_in}
use Rattle.stan_model_walk.specs.Nodes.{in_item, in_step, in_tree}
use Rattle.stan_syntax.specs.Tree.{argument_of, arm_of, element_of, operation_of, parameter_of, part_of, suffix_of, tree_of}
use Rattle.stan_expr_walk.specs.Found.{found_of}
use Rattle.stan_expr_walk.specs.Taken.{operand_taken}
use Rattle.stan_expr_walk.proofs.walk.+walk.Given as goal

abbrev pub invariant-listed_found-loop-argument : goal.invariant-listed_found-loop-argument
invariant-listed_found-loop-argument l = map found_of l.found.items ≡ map found_of l.initial.found.items ++ flat_map (λ x. in_item found_in l.inner (argument_of x)) (take l.argument-index l.arguments)

abbrev pub invariant-arms_found-loop-arm : goal.invariant-arms_found-loop-arm
invariant-arms_found-loop-arm l = map found_of l.found.items ≡ map found_of l.initial.found.items ++ flat_map (λ x. in_item found_in l.inner (arm_of x)) (take l.arm-index l.arms)

abbrev pub invariant-elements_found-loop-element : goal.invariant-elements_found-loop-element
invariant-elements_found-loop-element l = map found_of l.found.items ≡ map found_of l.initial.found.items ++ flat_map (λ x. in_item found_in l.inner (element_of x)) (take l.element-index l.elements)

abbrev pub invariant-exprs_found-loop-e : goal.invariant-exprs_found-loop-e
invariant-exprs_found-loop-e l = map found_of l.found.items ≡ map found_of l.initial.found.items ++ flat_map (λ x. in_tree found_in l.inner (tree_of x)) (take l.e-index l.es)

abbrev pub invariant-operations_found-loop-operation : goal.invariant-operations_found-loop-operation
invariant-operations_found-loop-operation l = map found_of l.found.items ≡ map found_of l.initial.found.items ++ flat_map (λ x. operand_taken l.inner (operation_of x)) (take l.operation-index l.operations)

abbrev pub invariant-parameters_found-loop-parameter : goal.invariant-parameters_found-loop-parameter
invariant-parameters_found-loop-parameter l = map found_of l.found.items ≡ map found_of l.initial.found.items ++ flat_map (λ x. in_item found_in l.inner (parameter_of x)) (take l.parameter-index l.parameters)

abbrev pub invariant-parts_found-loop-part : goal.invariant-parts_found-loop-part
invariant-parts_found-loop-part l = map found_of l.found.items ≡ map found_of l.initial.found.items ++ flat_map (λ x. in_step found_in l.inner (part_of x)) (take l.part-index l.parts)

abbrev pub invariant-suffixes_found-loop-suffix : goal.invariant-suffixes_found-loop-suffix
invariant-suffixes_found-loop-suffix l = map found_of l.found.items ≡ map found_of l.initial.found.items ++ flat_map (λ x. in_step found_in l.inner (suffix_of x)) (take l.suffix-index l.suffixes)
