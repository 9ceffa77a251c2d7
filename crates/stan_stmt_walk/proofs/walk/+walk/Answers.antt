use Rattle.std.proofs.Common.{arith, append-nil, append_assoc}
use Rattle.std.proofs.Math.Seq.{take-length}
use Rattle.std.proofs.lemmas.List.{take_all}
use Rattle.stan_stmt_trees.specs.Tree.{value_of}
use Rattle.stan_stmt_walk.proofs.Lists.{bodies_flat, values_flat, statements_flat, else_ifs_flat, cases_flat, catches_flat, variables_flat, constants_flat, parameters_flat, members_flat}
use Rattle.stan_stmt_trees.proofs.Layers.{form-Block, form-Empty, form-Expression, form-Echo, form-Return, form-If, form-While, form-Do, form-For, form-ForEach, form-Switch, form-Break, form-Continue, form-Try, form-Unset, form-Global, form-Static, form-Const, form-Declare, form-Function, form-Class, form-Interface, form-Trait, member-TraitUse, member-Constants, member-Method, member-Properties, case_fields, catch_fields, class_member_fields, constant_fields, else_if_fields, parameter_fields, body_fields, statement_fields, value_fields, variable_fields}
use Rattle.stan_stmt_walk.proofs.walk.+walk.Goals as goal

pub form_found-returns-in-Block : goal.form_found-returns-in-Block
form_found-returns-in-Block t c = rw (c.in-Block.is, form-Block, statements_flat) (grind (arith, append-nil, append_assoc))

pub form_found-returns-in-Empty : goal.form_found-returns-in-Empty
form_found-returns-in-Empty t c = rw (c.in-Empty.is, form-Empty) (grind (arith, append-nil, append_assoc))

pub form_found-returns-in-Expression : goal.form_found-returns-in-Expression
form_found-returns-in-Expression t c = rw (c.in-Expression.is, form-Expression) (grind (arith, append-nil, append_assoc))

pub form_found-returns-in-Echo : goal.form_found-returns-in-Echo
form_found-returns-in-Echo t c = rw (c.in-Echo.is, form-Echo, values_flat) (grind (arith, append-nil, append_assoc))

pub form_found-returns-in-Return : goal.form_found-returns-in-Return
form_found-returns-in-Return t c = rw (c.in-Return.is, form-Return) (grind (arith, append-nil, append_assoc))

pub form_found-returns-in-Break : goal.form_found-returns-in-Break
form_found-returns-in-Break t c = rw (c.in-Break.is, form-Break) (grind (arith, append-nil, append_assoc))

pub form_found-returns-in-Continue : goal.form_found-returns-in-Continue
form_found-returns-in-Continue t c = rw (c.in-Continue.is, form-Continue) (grind (arith, append-nil, append_assoc))

pub form_found-returns-in-Unset : goal.form_found-returns-in-Unset
form_found-returns-in-Unset t c = rw (c.in-Unset.is, form-Unset, values_flat) (grind (arith, append-nil, append_assoc))

pub form_found-returns-in-Global : goal.form_found-returns-in-Global
form_found-returns-in-Global t c = rw (c.in-Global.is, form-Global) (grind (arith, append-nil, append_assoc))

pub form_found-returns-in-Static : goal.form_found-returns-in-Static
form_found-returns-in-Static t c = rw (c.in-Static.is, form-Static, variables_flat) (grind (arith, append-nil, append_assoc))

pub form_found-returns-in-Const : goal.form_found-returns-in-Const
form_found-returns-in-Const t c = rw (c.in-Const.is, form-Const, constants_flat) (grind (arith, append-nil, append_assoc))

pub form_found-returns-in-Declare : goal.form_found-returns-in-Declare
form_found-returns-in-Declare t c = rw (c.in-Declare.is, form-Declare) (grind (arith, append-nil, append_assoc))

pub form_found-returns-in-Class : goal.form_found-returns-in-Class
form_found-returns-in-Class t c = rw (c.in-Class.is, form-Class, members_flat) (grind (arith, append-nil, append_assoc))

pub form_found-returns-in-Interface : goal.form_found-returns-in-Interface
form_found-returns-in-Interface t c = rw (c.in-Interface.is, form-Interface, members_flat) (grind (arith, append-nil, append_assoc))

pub form_found-returns-in-Trait : goal.form_found-returns-in-Trait
form_found-returns-in-Trait t c = rw (c.in-Trait.is, form-Trait, members_flat) (grind (arith, append-nil, append_assoc))

pub form_found-returns-in_ok-else_ifs_found-in-If : goal.form_found-returns-in_ok-else_ifs_found-in-If
form_found-returns-in_ok-else_ifs_found-in-If t c =
    rw (c.in-If.is, form-If, else_ifs_flat, append_assoc, append_assoc)
    (rw (c.in_ok-else_ifs_found-in-If.ensures, append_assoc, c.in_ok-statement_found-in-If.ensures, append_assoc, c.in_ok-value_found-in-If.ensures, append_assoc, c.get.ensures, c.as_slice-in-If.ensures) at c.otherwise_found.ensures)

pub form_found-returns-in_ok-value_found-in-While : goal.form_found-returns-in_ok-value_found-in-While
form_found-returns-in_ok-value_found-in-While t c = rw (c.in-While.is, form-While) (grind (arith, append-nil, append_assoc))

pub form_found-returns-in_ok-statement_found-in-Do : goal.form_found-returns-in_ok-statement_found-in-Do
form_found-returns-in_ok-statement_found-in-Do t c = rw (c.in-Do.is, form-Do) (grind (arith, append-nil, append_assoc))

pub form_found-returns-in_ok-values_found-in-For-3 : goal.form_found-returns-in_ok-values_found-in-For-3
form_found-returns-in_ok-values_found-in-For-3 t c =
    rw (c.in-For.is, form-For, values_flat c.args.inner value_of c.in-For.start, values_flat c.args.inner value_of c.in-For.conditions, values_flat c.args.inner value_of c.in-For.step, append_assoc, append_assoc)
    (rw (c.in_ok-values_found-in-For-3.ensures, append_assoc, c.in_ok-values_found-in-For-2.ensures, append_assoc, c.in_ok-values_found-in-For.ensures, append_assoc, c.as_slice-in-For.ensures, c.as_slice-in-For-2.ensures, c.as_slice-in-For-3.ensures, c.get-in-For.ensures) at c.statement_found-in-For.ensures)

pub form_found-returns-in_ok-value_found-in-ForEach-2 : goal.form_found-returns-in_ok-value_found-in-ForEach-2
form_found-returns-in_ok-value_found-in-ForEach-2 t c = rw (c.in-ForEach.is, form-ForEach) (grind (arith, append-nil, append_assoc))

pub form_found-returns-in_ok-value_found-in-Switch : goal.form_found-returns-in_ok-value_found-in-Switch
form_found-returns-in_ok-value_found-in-Switch t c = rw (c.in-Switch.is, form-Switch, cases_flat) (grind (arith, append-nil, append_assoc))

pub form_found-returns-in_ok-catches_found-in-Try : goal.form_found-returns-in_ok-catches_found-in-Try
form_found-returns-in_ok-catches_found-in-Try t c =
    rw (c.in-Try.is, form-Try, statements_flat, catches_flat, append_assoc)
    (rw (c.in_ok-catches_found-in-Try.ensures, append_assoc, c.in_ok-statements_found-in-Try.ensures, append_assoc, c.as_slice-in-Try.ensures, c.as_slice-in-Try-2.ensures) at c.may_block_found.ensures)

pub form_found-returns-in_ok-parameters_found-in-Function : goal.form_found-returns-in_ok-parameters_found-in-Function
form_found-returns-in_ok-parameters_found-in-Function t c =
    let first = rw c.as_slice-in-Function.ensures at c.in_ok-parameters_found-in-Function.ensures in
    rw (c.in-Function.is, form-Function, parameters_flat, statements_flat) (rw (first, append_assoc, c.as_slice-in-Function-2.ensures) at c.statements_found-in-Function.ensures)

pub member_found-returns-in-TraitUse : goal.member_found-returns-in-TraitUse
member_found-returns-in-TraitUse t c = rw (c.in-TraitUse.is, member-TraitUse) (grind (arith, append-nil, append_assoc))

pub member_found-returns-in-Constants : goal.member_found-returns-in-Constants
member_found-returns-in-Constants t c = rw (c.in-Constants.is, member-Constants, constants_flat) (grind (arith, append-nil, append_assoc))

pub member_found-returns-in-Properties : goal.member_found-returns-in-Properties
member_found-returns-in-Properties t c = rw (c.in-Properties.is, member-Properties, variables_flat) (grind (arith, append-nil, append_assoc))

pub member_found-returns-in_ok-parameters_found-in-Method : goal.member_found-returns-in_ok-parameters_found-in-Method
member_found-returns-in_ok-parameters_found-in-Method t c = rw (c.in-Method.is, member-Method, parameters_flat) (grind (arith, append-nil, append_assoc))

pub body_found-returns : goal.body_found-returns
body_found-returns t c = rw (body_fields, statements_flat) (grind (arith, append-nil, append_assoc))

pub catch_found-returns : goal.catch_found-returns
catch_found-returns t c = rw (catch_fields, statements_flat) (grind (arith, append-nil, append_assoc))

pub class_member_found-returns : goal.class_member_found-returns
class_member_found-returns t c = rw (class_member_fields) (grind (arith, append-nil, append_assoc))

pub constant_found-returns : goal.constant_found-returns
constant_found-returns t c = rw (constant_fields) (grind (arith, append-nil, append_assoc))

pub else_if_found-returns : goal.else_if_found-returns
else_if_found-returns t c = rw (else_if_fields) (grind (arith, append-nil, append_assoc))

pub parameter_found-returns : goal.parameter_found-returns
parameter_found-returns t c = rw (parameter_fields) (grind (arith, append-nil, append_assoc))

pub statement_found-returns : goal.statement_found-returns
statement_found-returns t c = rw (statement_fields) (grind (arith, append-nil, append_assoc))

pub value_found-returns : goal.value_found-returns
value_found-returns t c = rw (value_fields, bodies_flat) (grind (arith, append-nil, append_assoc))

pub variable_found-returns : goal.variable_found-returns
variable_found-returns t c = rw (variable_fields) (grind (arith, append-nil, append_assoc))

pub may_block_found-returns-after-loop-statement : goal.may_block_found-returns-after-loop-statement
may_block_found-returns-after-loop-statement t c = rw (c.in-Some.is, statements_flat) (grind (arith, take-length, take_all))

pub case_found-returns : goal.case_found-returns
case_found-returns t c = rw (case_fields, statements_flat) (rw (c.in_ok-may_value_found.ensures, append_assoc, c.as_slice.ensures) at c.statements_found.ensures)
