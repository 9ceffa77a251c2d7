-- What the functions inside promise each other about depths.
use Rattle.std.specs.Prelude.{ℕ, ◌+◌, max}
use Rattle.stan_model_statements.specs.Depth.{value_depth, may_value_depth, depth, statements_depth, member_depth}
use Rattle.stan_model_statements.specs.TreeLists.{ReadBody, ElseIf, Case, Catch, Variable, Constant, Parameter, ClassMember}

abbrev pub body_depth : ReadBody → ℕ
body_depth x = x.held.levels + (statements_depth x.statements + 1)

abbrev pub else_if_depth : ElseIf → ℕ
else_if_depth x = max (value_depth x.condition + 1) (depth x.then)

abbrev pub case_depth : Case → ℕ
case_depth x = max (may_value_depth x.value) (statements_depth x.statements)

abbrev pub catch_depth : Catch → ℕ
catch_depth x = statements_depth x.statements + 1

abbrev pub variable_depth : Variable → ℕ
variable_depth x = may_value_depth x.value

abbrev pub constant_depth : Constant → ℕ
constant_depth x = value_depth x.value

abbrev pub parameter_depth : Parameter → ℕ
parameter_depth x = may_value_depth x.default

abbrev pub class_member_depth : ClassMember → ℕ
class_member_depth x = member_depth x.form
