use Rattle.std.proofs.Common.{arith, append-nil, append_assoc}
use Rattle.std.proofs.Math.Seq.{take-length}
use Rattle.std.proofs.lemmas.List.{take_all}
use Rattle.stan_stmt_trees.specs.Tree.{value_of}
use Rattle.stan_stmt_owners.proofs.Lists.{bodies_flat, values_flat, statements_flat, else_ifs_flat, cases_flat, catches_flat, variables_flat, constants_flat, parameters_flat, members_flat}
use Rattle.stan_stmt_trees.proofs.Layers.{form-Block, form-Empty, form-Expression, form-Echo, form-Return, form-If, form-While, form-Do, form-For, form-ForEach, form-Switch, form-Break, form-Continue, form-Try, form-Unset, form-Global, form-Static, form-Const, form-Declare, form-Function, form-Class, form-Interface, form-Trait, member-TraitUse, member-Constants, member-Method, member-Properties, case_fields, catch_fields, class_member_fields, constant_fields, else_if_fields, parameter_fields, body_fields, statement_fields, value_fields, variable_fields}
use Rattle.stan_stmt_owners.proofs.owners.+owned.Goals as goal

pub form_owned-returns-in-Block : goal.form_owned-returns-in-Block
form_owned-returns-in-Block t c = rw (c.in-Block.is, form-Block, statements_flat) (grind (arith, append-nil, append_assoc))

pub form_owned-returns-in-Empty : goal.form_owned-returns-in-Empty
form_owned-returns-in-Empty t c = rw (c.in-Empty.is, form-Empty) (grind (arith, append-nil, append_assoc))

pub form_owned-returns-in-Expression : goal.form_owned-returns-in-Expression
form_owned-returns-in-Expression t c = rw (c.in-Expression.is, form-Expression) (grind (arith, append-nil, append_assoc))

pub form_owned-returns-in-Echo : goal.form_owned-returns-in-Echo
form_owned-returns-in-Echo t c = rw (c.in-Echo.is, form-Echo, values_flat) (grind (arith, append-nil, append_assoc))

pub form_owned-returns-in-Return : goal.form_owned-returns-in-Return
form_owned-returns-in-Return t c = rw (c.in-Return.is, form-Return) (grind (arith, append-nil, append_assoc))

pub form_owned-returns-in-Break : goal.form_owned-returns-in-Break
form_owned-returns-in-Break t c = rw (c.in-Break.is, form-Break) (grind (arith, append-nil, append_assoc))

pub form_owned-returns-in-Continue : goal.form_owned-returns-in-Continue
form_owned-returns-in-Continue t c = rw (c.in-Continue.is, form-Continue) (grind (arith, append-nil, append_assoc))

pub form_owned-returns-in-Unset : goal.form_owned-returns-in-Unset
form_owned-returns-in-Unset t c = rw (c.in-Unset.is, form-Unset, values_flat) (grind (arith, append-nil, append_assoc))

pub form_owned-returns-in-Global : goal.form_owned-returns-in-Global
form_owned-returns-in-Global t c = rw (c.in-Global.is, form-Global) (grind (arith, append-nil, append_assoc))

pub form_owned-returns-in-Static : goal.form_owned-returns-in-Static
form_owned-returns-in-Static t c = rw (c.in-Static.is, form-Static, variables_flat) (grind (arith, append-nil, append_assoc))

pub form_owned-returns-in-Const : goal.form_owned-returns-in-Const
form_owned-returns-in-Const t c = rw (c.in-Const.is, form-Const, constants_flat) (grind (arith, append-nil, append_assoc))

pub form_owned-returns-in-Declare : goal.form_owned-returns-in-Declare
form_owned-returns-in-Declare t c = rw (c.in-Declare.is, form-Declare) (grind (arith, append-nil, append_assoc))

pub form_owned-returns-in-Class : goal.form_owned-returns-in-Class
form_owned-returns-in-Class t c = rw (c.in-Class.is, form-Class, members_flat) (grind (arith, append-nil, append_assoc))

pub form_owned-returns-in-Interface : goal.form_owned-returns-in-Interface
form_owned-returns-in-Interface t c = rw (c.in-Interface.is, form-Interface, members_flat) (grind (arith, append-nil, append_assoc))

pub form_owned-returns-in-Trait : goal.form_owned-returns-in-Trait
form_owned-returns-in-Trait t c = rw (c.in-Trait.is, form-Trait, members_flat) (grind (arith, append-nil, append_assoc))

pub form_owned-returns-in_ok-else_ifs_owned-in-If : goal.form_owned-returns-in_ok-else_ifs_owned-in-If
form_owned-returns-in_ok-else_ifs_owned-in-If t c = rw (c.in-If.is, form-If, else_ifs_flat) (grind (arith, append-nil, append_assoc))

pub form_owned-returns-in_ok-value_owned-in-While : goal.form_owned-returns-in_ok-value_owned-in-While
form_owned-returns-in_ok-value_owned-in-While t c = rw (c.in-While.is, form-While) (grind (arith, append-nil, append_assoc))

pub form_owned-returns-in_ok-statement_owned-in-Do : goal.form_owned-returns-in_ok-statement_owned-in-Do
form_owned-returns-in_ok-statement_owned-in-Do t c = rw (c.in-Do.is, form-Do) (grind (arith, append-nil, append_assoc))

pub form_owned-returns-in_ok-values_owned-in-For-3 : goal.form_owned-returns-in_ok-values_owned-in-For-3
form_owned-returns-in_ok-values_owned-in-For-3 t c = rw (c.in-For.is, form-For, values_flat value_of c.in-For.start, values_flat value_of c.in-For.conditions, values_flat value_of c.in-For.step) (grind (arith, append-nil, append_assoc))

pub form_owned-returns-in_ok-value_owned-in-ForEach-2 : goal.form_owned-returns-in_ok-value_owned-in-ForEach-2
form_owned-returns-in_ok-value_owned-in-ForEach-2 t c = rw (c.in-ForEach.is, form-ForEach) (grind (arith, append-nil, append_assoc))

pub form_owned-returns-in_ok-value_owned-in-Switch : goal.form_owned-returns-in_ok-value_owned-in-Switch
form_owned-returns-in_ok-value_owned-in-Switch t c = rw (c.in-Switch.is, form-Switch, cases_flat) (grind (arith, append-nil, append_assoc))

pub form_owned-returns-in_ok-catches_owned-in-Try : goal.form_owned-returns-in_ok-catches_owned-in-Try
form_owned-returns-in_ok-catches_owned-in-Try t c = rw (c.in-Try.is, form-Try, statements_flat, catches_flat) (grind (arith, append-nil, append_assoc))

pub form_owned-returns-in_ok-parameters_owned-in-Function : goal.form_owned-returns-in_ok-parameters_owned-in-Function
form_owned-returns-in_ok-parameters_owned-in-Function t c = rw (c.in-Function.is, form-Function, parameters_flat, statements_flat) (grind (arith, append-nil, append_assoc))

pub member_owned-returns-in-TraitUse : goal.member_owned-returns-in-TraitUse
member_owned-returns-in-TraitUse t c = rw (c.in-TraitUse.is, member-TraitUse) (grind (arith, append-nil, append_assoc))

pub member_owned-returns-in-Constants : goal.member_owned-returns-in-Constants
member_owned-returns-in-Constants t c = rw (c.in-Constants.is, member-Constants, constants_flat) (grind (arith, append-nil, append_assoc))

pub member_owned-returns-in-Properties : goal.member_owned-returns-in-Properties
member_owned-returns-in-Properties t c = rw (c.in-Properties.is, member-Properties, variables_flat) (grind (arith, append-nil, append_assoc))

pub member_owned-returns-in_ok-parameters_owned-in-Method : goal.member_owned-returns-in_ok-parameters_owned-in-Method
member_owned-returns-in_ok-parameters_owned-in-Method t c = rw (c.in-Method.is, member-Method, parameters_flat) (grind (arith, append-nil, append_assoc))

pub body_owned-returns : goal.body_owned-returns
body_owned-returns t c = rw (body_fields, statements_flat) (grind (arith, append-nil, append_assoc))

pub catch_owned-returns : goal.catch_owned-returns
catch_owned-returns t c = rw (catch_fields, statements_flat) (grind (arith, append-nil, append_assoc))

pub class_member_owned-returns : goal.class_member_owned-returns
class_member_owned-returns t c = rw (class_member_fields) (grind (arith, append-nil, append_assoc))

pub constant_owned-returns : goal.constant_owned-returns
constant_owned-returns t c = rw (constant_fields) (grind (arith, append-nil, append_assoc))

pub else_if_owned-returns : goal.else_if_owned-returns
else_if_owned-returns t c = rw (else_if_fields) (grind (arith, append-nil, append_assoc))

pub parameter_owned-returns : goal.parameter_owned-returns
parameter_owned-returns t c = rw (parameter_fields) (grind (arith, append-nil, append_assoc))

pub statement_owned-returns : goal.statement_owned-returns
statement_owned-returns t c = rw (statement_fields) (grind (arith, append-nil, append_assoc))

pub value_owned-returns : goal.value_owned-returns
value_owned-returns t c = rw (value_fields, bodies_flat) (grind (arith, append-nil, append_assoc))

pub variable_owned-returns : goal.variable_owned-returns
variable_owned-returns t c = rw (variable_fields) (grind (arith, append-nil, append_assoc))

pub may_block_owned-returns-after-loop-statement : goal.may_block_owned-returns-after-loop-statement
may_block_owned-returns-after-loop-statement t c = rw (c.in-Some.is, statements_flat) (grind (arith, take-length, take_all))

pub case_owned-returns : goal.case_owned-returns
case_owned-returns t c = rw (case_fields, statements_flat) (rw (c.in_ok-may_value_owned.ensures, append_assoc, c.in_ok-push.ensures, append_assoc, c.as_slice.ensures) at c.statements_owned.ensures)
