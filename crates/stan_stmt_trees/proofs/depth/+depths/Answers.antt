use Rattle.std.proofs.Common.{arith}
use Rattle.std.proofs.Math.Seq.{take-length}
use Rattle.std.proofs.lemmas.List.{take_all}
use Rattle.stan_stmt_trees.specs.Tree.{value_of}
use Rattle.stan_stmt_trees.proofs.Depths.{bodies_greatest, values_greatest, statements_greatest, else_ifs_greatest, cases_greatest, catches_greatest, variables_greatest, constants_greatest, parameters_greatest, members_greatest}
use Rattle.stan_stmt_trees.proofs.Layers.{form-Block, form-Empty, form-Expression, form-Echo, form-Return, form-If, form-While, form-Do, form-For, form-ForEach, form-Switch, form-Break, form-Continue, form-Try, form-Unset, form-Global, form-Static, form-Const, form-Declare, form-Function, form-Class, form-Interface, form-Trait, member-TraitUse, member-Constants, member-Method, member-Properties, case_fields, catch_fields, class_member_fields, constant_fields, else_if_fields, parameter_fields, body_fields, statement_fields, value_fields, variable_fields}
use Rattle.stan_stmt_trees.proofs.depth.+depths.Goals as goal

pub form_depth-returns-in-Block : goal.form_depth-returns-in-Block
form_depth-returns-in-Block t c = rw (c.in-Block.is, form-Block, statements_greatest) (grind arith)

pub form_depth-returns-in-Empty : goal.form_depth-returns-in-Empty
form_depth-returns-in-Empty t c = rw (c.in-Empty.is, form-Empty) (grind arith)

pub form_depth-returns-in-Expression : goal.form_depth-returns-in-Expression
form_depth-returns-in-Expression t c = rw (c.in-Expression.is, form-Expression) (grind arith)

pub form_depth-returns-in-Echo : goal.form_depth-returns-in-Echo
form_depth-returns-in-Echo t c = rw (c.in-Echo.is, form-Echo, values_greatest) (grind arith)

pub form_depth-returns-in-Return : goal.form_depth-returns-in-Return
form_depth-returns-in-Return t c = rw (c.in-Return.is, form-Return) (grind arith)

pub form_depth-returns-in-If : goal.form_depth-returns-in-If
form_depth-returns-in-If t c = rw (c.in-If.is, form-If, else_ifs_greatest) (grind arith)

pub form_depth-returns-in-While : goal.form_depth-returns-in-While
form_depth-returns-in-While t c = rw (c.in-While.is, form-While) (grind arith)

pub form_depth-returns-in-Do : goal.form_depth-returns-in-Do
form_depth-returns-in-Do t c = rw (c.in-Do.is, form-Do) (grind arith)

pub form_depth-returns-in-For : goal.form_depth-returns-in-For
form_depth-returns-in-For t c =
    rw (c.in-For.is, form-For, values_greatest value_of c.in-For.start, values_greatest value_of c.in-For.conditions, values_greatest value_of c.in-For.step) (grind arith)

pub form_depth-returns-in-ForEach : goal.form_depth-returns-in-ForEach
form_depth-returns-in-ForEach t c = rw (c.in-ForEach.is, form-ForEach) (grind arith)

pub form_depth-returns-in-Switch : goal.form_depth-returns-in-Switch
form_depth-returns-in-Switch t c = rw (c.in-Switch.is, form-Switch, cases_greatest) (grind arith)

pub form_depth-returns-in-Break : goal.form_depth-returns-in-Break
form_depth-returns-in-Break t c = rw (c.in-Break.is, form-Break) (grind arith)

pub form_depth-returns-in-Continue : goal.form_depth-returns-in-Continue
form_depth-returns-in-Continue t c = rw (c.in-Continue.is, form-Continue) (grind arith)

pub form_depth-returns-in-Try : goal.form_depth-returns-in-Try
form_depth-returns-in-Try t c = rw (c.in-Try.is, form-Try, statements_greatest, catches_greatest) (grind arith)

pub form_depth-returns-in-Unset : goal.form_depth-returns-in-Unset
form_depth-returns-in-Unset t c = rw (c.in-Unset.is, form-Unset, values_greatest) (grind arith)

pub form_depth-returns-in-Global : goal.form_depth-returns-in-Global
form_depth-returns-in-Global t c = rw (c.in-Global.is, form-Global) (grind arith)

pub form_depth-returns-in-Static : goal.form_depth-returns-in-Static
form_depth-returns-in-Static t c = rw (c.in-Static.is, form-Static, variables_greatest) (grind arith)

pub form_depth-returns-in-Const : goal.form_depth-returns-in-Const
form_depth-returns-in-Const t c = rw (c.in-Const.is, form-Const, constants_greatest) (grind arith)

pub form_depth-returns-in-Declare : goal.form_depth-returns-in-Declare
form_depth-returns-in-Declare t c = rw (c.in-Declare.is, form-Declare) (grind arith)

pub form_depth-returns-in-Function : goal.form_depth-returns-in-Function
form_depth-returns-in-Function t c = rw (c.in-Function.is, form-Function, parameters_greatest, statements_greatest) (grind arith)

pub form_depth-returns-in-Class : goal.form_depth-returns-in-Class
form_depth-returns-in-Class t c = rw (c.in-Class.is, form-Class, members_greatest) (grind arith)

pub form_depth-returns-in-Interface : goal.form_depth-returns-in-Interface
form_depth-returns-in-Interface t c = rw (c.in-Interface.is, form-Interface, members_greatest) (grind arith)

pub form_depth-returns-in-Trait : goal.form_depth-returns-in-Trait
form_depth-returns-in-Trait t c = rw (c.in-Trait.is, form-Trait, members_greatest) (grind arith)

pub member_depth-returns-in-None : goal.member_depth-returns-in-None
member_depth-returns-in-None t c = rw (c.in-TraitUse.is, c.in-None.is, member-TraitUse) (grind arith)

pub member_depth-returns-in-Some : goal.member_depth-returns-in-Some
member_depth-returns-in-Some t c = rw (c.in-TraitUse.is, c.in-Some.is, member-TraitUse) (grind arith)

pub member_depth-returns-in-Constants : goal.member_depth-returns-in-Constants
member_depth-returns-in-Constants t c = rw (c.in-Constants.is, member-Constants, constants_greatest) (grind arith)

pub member_depth-returns-in-Method : goal.member_depth-returns-in-Method
member_depth-returns-in-Method t c = rw (c.in-Method.is, member-Method, parameters_greatest) (grind arith)

pub member_depth-returns-in-Properties : goal.member_depth-returns-in-Properties
member_depth-returns-in-Properties t c = rw (c.in-Properties.is, member-Properties, variables_greatest) (grind arith)

pub one_case_depth-returns : goal.one_case_depth-returns
one_case_depth-returns t c = rw (case_fields, statements_greatest) (grind arith)

pub one_catch_depth-returns : goal.one_catch_depth-returns
one_catch_depth-returns t c = rw (catch_fields, statements_greatest) (grind arith)

pub one_constant_depth-returns : goal.one_constant_depth-returns
one_constant_depth-returns t c = rw constant_fields (grind arith)

pub one_else_if_depth-returns : goal.one_else_if_depth-returns
one_else_if_depth-returns t c = rw else_if_fields (grind arith)

pub one_member_depth-returns : goal.one_member_depth-returns
one_member_depth-returns t c = rw class_member_fields (grind arith)

pub one_parameter_depth-returns : goal.one_parameter_depth-returns
one_parameter_depth-returns t c = rw parameter_fields (grind arith)

pub one_variable_depth-returns : goal.one_variable_depth-returns
one_variable_depth-returns t c = rw variable_fields (grind arith)

pub read_body_depth-returns : goal.read_body_depth-returns
read_body_depth-returns t c = rw (body_fields, statements_greatest) (grind arith)

pub statement_depth-returns : goal.statement_depth-returns
statement_depth-returns t c = rw statement_fields (grind arith)

pub value_depth-returns : goal.value_depth-returns
value_depth-returns t c = rw (value_fields, bodies_greatest) (grind arith)

pub some_block_depth-returns-after-loop-statement : goal.some_block_depth-returns-after-loop-statement
some_block_depth-returns-after-loop-statement t c = rw (c.in-Some.is, statements_greatest) (grind (arith, take-length, take_all))
