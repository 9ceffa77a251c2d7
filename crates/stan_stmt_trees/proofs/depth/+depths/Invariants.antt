use Rattle.std.proofs.Common.{◌≡◌, ◌-◌, ◌^◌, take, min}
use Rattle.stan_model_statements.specs.Depth.{value_depth, depth}
use Rattle.stan_syntax.specs.Depth.{greatest}
use Rattle.stan_stmt_trees.specs.Depth.{body_depth, case_depth, catch_depth, class_member_depth, constant_depth, else_if_depth, parameter_depth, variable_depth}
use Rattle.stan_stmt_trees.specs.Tree.{case_of, catch_of, class_member_of, constant_of, else_if_of, parameter_of, body_of, statement_of, value_of, variable_of}
use Rattle.stan_stmt_trees.proofs.depth.+depths.Given as goal

abbrev pub invariant-bodies_depth-loop-body : goal.invariant-bodies_depth-loop-body
invariant-bodies_depth-loop-body l = l.most ≡ min (greatest (λ x. body_depth (body_of x)) (take l.body-index l.bodies)) (2 ^ 32 - 1)

abbrev pub invariant-values_depth-loop-value : goal.invariant-values_depth-loop-value
invariant-values_depth-loop-value l = l.most ≡ min (greatest (λ x. value_depth (value_of x)) (take l.value-index l.values)) (2 ^ 32 - 1)

abbrev pub invariant-statements_depth-loop-statement : goal.invariant-statements_depth-loop-statement
invariant-statements_depth-loop-statement l = l.most ≡ min (greatest (λ x. depth (statement_of x)) (take l.statement-index l.statements)) (2 ^ 32 - 1)

abbrev pub invariant-else_ifs_depth-loop-else_if : goal.invariant-else_ifs_depth-loop-else_if
invariant-else_ifs_depth-loop-else_if l = l.most ≡ min (greatest (λ x. else_if_depth (else_if_of x)) (take l.else_if-index l.else_ifs)) (2 ^ 32 - 1)

abbrev pub invariant-cases_depth-loop-case : goal.invariant-cases_depth-loop-case
invariant-cases_depth-loop-case l = l.most ≡ min (greatest (λ x. case_depth (case_of x)) (take l.case-index l.cases)) (2 ^ 32 - 1)

abbrev pub invariant-catches_depth-loop-catch : goal.invariant-catches_depth-loop-catch
invariant-catches_depth-loop-catch l = l.most ≡ min (greatest (λ x. catch_depth (catch_of x)) (take l.catch-index l.catches)) (2 ^ 32 - 1)

abbrev pub invariant-variables_depth-loop-variable : goal.invariant-variables_depth-loop-variable
invariant-variables_depth-loop-variable l = l.most ≡ min (greatest (λ x. variable_depth (variable_of x)) (take l.variable-index l.variables)) (2 ^ 32 - 1)

abbrev pub invariant-constants_depth-loop-constant : goal.invariant-constants_depth-loop-constant
invariant-constants_depth-loop-constant l = l.most ≡ min (greatest (λ x. constant_depth (constant_of x)) (take l.constant-index l.constants)) (2 ^ 32 - 1)

abbrev pub invariant-parameters_depth-loop-parameter : goal.invariant-parameters_depth-loop-parameter
invariant-parameters_depth-loop-parameter l = l.most ≡ min (greatest (λ x. parameter_depth (parameter_of x)) (take l.parameter-index l.parameters)) (2 ^ 32 - 1)

abbrev pub invariant-members_depth-loop-member : goal.invariant-members_depth-loop-member
invariant-members_depth-loop-member l = l.most ≡ min (greatest (λ x. class_member_depth (class_member_of x)) (take l.member-index l.members)) (2 ^ 32 - 1)

abbrev pub invariant-some_block_depth-loop-statement : goal.invariant-some_block_depth-loop-statement
invariant-some_block_depth-loop-statement l = l.most ≡ min (greatest (λ x. depth (statement_of x)) (take l.statement-index l.list)) (2 ^ 32 - 1)
