use Rattle.std.proofs.Common.{◌≡◌, ◌++◌, map, take, true}
use Rattle.std.specs.List.{flat_map}
use Rattle.stan_expr_walk.specs.Found.{found_of}
use Rattle.stan_model_walk.specs.Findings.{found_in}
use Rattle.stan_model_walk.specs.Nodes.{in_value, in_may_value, in_statement, in_statements, in_else_if, in_case, in_constant, in_class_member}
use Rattle.stan_stmt_trees.specs.Tree.{case_of, catch_of, class_member_of, constant_of, else_if_of, parameter_of, body_of, statement_of, value_of, variable_of}
use Rattle.stan_stmt_walk.proofs.walk.+walk.Given as goal

abbrev pub invariant-bodies_found-loop-body : goal.invariant-bodies_found-loop-body
invariant-bodies_found-loop-body l = map found_of l.found.items ≡ map found_of l.initial.found.items ++ flat_map (λ x. in_statements found_in true (body_of x).statements) (take l.body-index l.bodies)

abbrev pub invariant-values_found-loop-value : goal.invariant-values_found-loop-value
invariant-values_found-loop-value l = map found_of l.found.items ≡ map found_of l.initial.found.items ++ flat_map (λ x. in_value found_in l.inner (value_of x)) (take l.value-index l.values)

abbrev pub invariant-statements_found-loop-statement : goal.invariant-statements_found-loop-statement
invariant-statements_found-loop-statement l = map found_of l.found.items ≡ map found_of l.initial.found.items ++ flat_map (λ x. in_statement found_in l.inner (statement_of x)) (take l.statement-index l.statements)

abbrev pub invariant-else_ifs_found-loop-else_if : goal.invariant-else_ifs_found-loop-else_if
invariant-else_ifs_found-loop-else_if l = map found_of l.found.items ≡ map found_of l.initial.found.items ++ flat_map (λ x. in_else_if found_in l.inner (else_if_of x)) (take l.else_if-index l.else_ifs)

abbrev pub invariant-cases_found-loop-case : goal.invariant-cases_found-loop-case
invariant-cases_found-loop-case l = map found_of l.found.items ≡ map found_of l.initial.found.items ++ flat_map (λ x. in_case found_in l.inner (case_of x)) (take l.case-index l.cases)

abbrev pub invariant-catches_found-loop-catch : goal.invariant-catches_found-loop-catch
invariant-catches_found-loop-catch l = map found_of l.found.items ≡ map found_of l.initial.found.items ++ flat_map (λ x. in_statements found_in l.inner (catch_of x).statements) (take l.catch-index l.catches)

abbrev pub invariant-variables_found-loop-variable : goal.invariant-variables_found-loop-variable
invariant-variables_found-loop-variable l = map found_of l.found.items ≡ map found_of l.initial.found.items ++ flat_map (λ x. in_may_value found_in l.inner (variable_of x).value) (take l.variable-index l.variables)

abbrev pub invariant-constants_found-loop-constant : goal.invariant-constants_found-loop-constant
invariant-constants_found-loop-constant l = map found_of l.found.items ≡ map found_of l.initial.found.items ++ flat_map (λ x. in_constant found_in l.inner (constant_of x)) (take l.constant-index l.constants)

abbrev pub invariant-parameters_found-loop-parameter : goal.invariant-parameters_found-loop-parameter
invariant-parameters_found-loop-parameter l = map found_of l.found.items ≡ map found_of l.initial.found.items ++ flat_map (λ x. in_may_value found_in true (parameter_of x).default) (take l.parameter-index l.parameters)

abbrev pub invariant-members_found-loop-member : goal.invariant-members_found-loop-member
invariant-members_found-loop-member l = map found_of l.found.items ≡ map found_of l.initial.found.items ++ flat_map (λ x. in_class_member found_in (class_member_of x)) (take l.member-index l.members)

abbrev pub invariant-may_block_found-loop-statement : goal.invariant-may_block_found-loop-statement
invariant-may_block_found-loop-statement l = map found_of l.found.items ≡ map found_of l.initial.found.items ++ flat_map (λ x. in_statement found_in l.inner (statement_of x)) (take l.statement-index l.list)
