use Rattle.std.proofs.Common.{◌≡◌, ◌++◌, take}
use Rattle.std.specs.List.{flat_map}
use Rattle.stan_stmt_owners.specs.Owned.{value_owned, may_value_owned, statement_owned, statements_owned, else_if_owned, case_owned, class_member_owned}
use Rattle.stan_stmt_trees.specs.Tree.{case_of, catch_of, class_member_of, constant_of, else_if_of, parameter_of, body_of, statement_of, value_of, variable_of}
use Rattle.stan_stmt_owners.proofs.owners.+owned.Given as goal

abbrev pub invariant-bodies_owned-loop-body : goal.invariant-bodies_owned-loop-body
invariant-bodies_owned-loop-body l = l.found.items ≡ l.initial.found.items ++ flat_map (λ x. statements_owned (body_of x).statements) (take l.body-index l.bodies)

abbrev pub invariant-values_owned-loop-value : goal.invariant-values_owned-loop-value
invariant-values_owned-loop-value l = l.found.items ≡ l.initial.found.items ++ flat_map (λ x. value_owned (value_of x)) (take l.value-index l.values)

abbrev pub invariant-statements_owned-loop-statement : goal.invariant-statements_owned-loop-statement
invariant-statements_owned-loop-statement l = l.found.items ≡ l.initial.found.items ++ flat_map (λ x. statement_owned (statement_of x)) (take l.statement-index l.statements)

abbrev pub invariant-else_ifs_owned-loop-else_if : goal.invariant-else_ifs_owned-loop-else_if
invariant-else_ifs_owned-loop-else_if l = l.found.items ≡ l.initial.found.items ++ flat_map (λ x. else_if_owned (else_if_of x)) (take l.else_if-index l.else_ifs)

abbrev pub invariant-cases_owned-loop-case : goal.invariant-cases_owned-loop-case
invariant-cases_owned-loop-case l = l.found.items ≡ l.initial.found.items ++ flat_map (λ x. case_owned (case_of x)) (take l.case-index l.cases)

abbrev pub invariant-catches_owned-loop-catch : goal.invariant-catches_owned-loop-catch
invariant-catches_owned-loop-catch l = l.found.items ≡ l.initial.found.items ++ flat_map (λ x. statements_owned (catch_of x).statements) (take l.catch-index l.catches)

abbrev pub invariant-variables_owned-loop-variable : goal.invariant-variables_owned-loop-variable
invariant-variables_owned-loop-variable l = l.found.items ≡ l.initial.found.items ++ flat_map (λ x. may_value_owned (variable_of x).value) (take l.variable-index l.variables)

abbrev pub invariant-constants_owned-loop-constant : goal.invariant-constants_owned-loop-constant
invariant-constants_owned-loop-constant l = l.found.items ≡ l.initial.found.items ++ flat_map (λ x. value_owned (constant_of x).value) (take l.constant-index l.constants)

abbrev pub invariant-parameters_owned-loop-parameter : goal.invariant-parameters_owned-loop-parameter
invariant-parameters_owned-loop-parameter l = l.found.items ≡ l.initial.found.items ++ flat_map (λ x. may_value_owned (parameter_of x).default) (take l.parameter-index l.parameters)

abbrev pub invariant-members_owned-loop-member : goal.invariant-members_owned-loop-member
invariant-members_owned-loop-member l = l.found.items ≡ l.initial.found.items ++ flat_map (λ x. class_member_owned (class_member_of x)) (take l.member-index l.members)

abbrev pub invariant-may_block_owned-loop-statement : goal.invariant-may_block_owned-loop-statement
invariant-may_block_owned-loop-statement l = l.found.items ≡ l.initial.found.items ++ flat_map (λ x. statement_owned (statement_of x)) (take l.statement-index l.list)
