use Rattle.std.proofs.Common.{◌≡◌, ◌++◌, map, take}
use Rattle.std.specs.List.{flat_map}
use Rattle.stan_model_grammar.specs.Sites.{item_sites, sites, statement_sites, step_sites}
use Rattle.stan_syntax.specs.Tree.{argument_of, arm_of, element_of, operation_of, parameter_of, part_of, statement_of, suffix_of, tree_of}
use Rattle.stan_sites.specs.Sites.{site_of}
use Rattle.stan_sites.proofs.sites.+sites.Given as goal

abbrev pub invariant-listed_sites-loop-argument : goal.invariant-listed_sites-loop-argument
invariant-listed_sites-loop-argument l = map site_of l.found.items ≡ map site_of l.initial.found.items ++ flat_map (λ x. item_sites l.level (argument_of x)) (take l.argument-index l.arguments)

abbrev pub invariant-arms_sites-loop-arm : goal.invariant-arms_sites-loop-arm
invariant-arms_sites-loop-arm l = map site_of l.found.items ≡ map site_of l.initial.found.items ++ flat_map (λ x. item_sites l.level (arm_of x)) (take l.arm-index l.arms)

abbrev pub invariant-elements_sites-loop-element : goal.invariant-elements_sites-loop-element
invariant-elements_sites-loop-element l = map site_of l.found.items ≡ map site_of l.initial.found.items ++ flat_map (λ x. item_sites l.level (element_of x)) (take l.element-index l.elements)

abbrev pub invariant-exprs_sites-loop-e : goal.invariant-exprs_sites-loop-e
invariant-exprs_sites-loop-e l = map site_of l.found.items ≡ map site_of l.initial.found.items ++ flat_map (λ x. sites l.level (tree_of x)) (take l.e-index l.es)

abbrev pub invariant-operations_sites-loop-operation : goal.invariant-operations_sites-loop-operation
invariant-operations_sites-loop-operation l = map site_of l.found.items ≡ map site_of l.initial.found.items ++ flat_map (λ x. sites l.level (operation_of x).operand) (take l.operation-index l.operations)

abbrev pub invariant-parameters_sites-loop-parameter : goal.invariant-parameters_sites-loop-parameter
invariant-parameters_sites-loop-parameter l = map site_of l.found.items ≡ map site_of l.initial.found.items ++ flat_map (λ x. item_sites l.level (parameter_of x)) (take l.parameter-index l.parameters)

abbrev pub invariant-parts_sites-loop-part : goal.invariant-parts_sites-loop-part
invariant-parts_sites-loop-part l = map site_of l.found.items ≡ map site_of l.initial.found.items ++ flat_map (λ x. step_sites l.level (part_of x)) (take l.part-index l.parts)

abbrev pub invariant-statements_sites-loop-statement : goal.invariant-statements_sites-loop-statement
invariant-statements_sites-loop-statement l = map site_of l.found.items ≡ map site_of l.initial.found.items ++ flat_map (λ x. statement_sites l.level (statement_of x)) (take l.statement-index l.statements)

abbrev pub invariant-suffixes_sites-loop-suffix : goal.invariant-suffixes_sites-loop-suffix
invariant-suffixes_sites-loop-suffix l = map site_of l.found.items ≡ map site_of l.initial.found.items ++ flat_map (λ x. step_sites l.level (suffix_of x)) (take l.suffix-index l.suffixes)
