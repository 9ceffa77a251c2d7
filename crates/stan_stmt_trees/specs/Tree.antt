-- The tree of the model that a value of the program stands for, by one layer of it at a time.
use Rattle.std.specs.Prelude.{List, Option, Some, None, map}
use Rattle.stan_model_grammar.specs.declared.token.Token.{Token}
use Rattle.stan_model_statements.specs.Trees as model
use Rattle.stan_model_statements.specs.TreeLists as lists
use Rattle.stan_syntax.specs.Tree.{tree_of, may_type}
use Rattle.stan_stmt_trees.specs.declared.statement.Form.{Form}
use Rattle.stan_stmt_trees.specs.declared.statement.Member.{Member}
use Rattle.stan_stmt_trees.specs.declared.statement.Case.{Case}
use Rattle.stan_stmt_trees.specs.declared.statement.Catch.{Catch}
use Rattle.stan_stmt_trees.specs.declared.statement.ClassMember.{ClassMember}
use Rattle.stan_stmt_trees.specs.declared.statement.Constant.{Constant}
use Rattle.stan_stmt_trees.specs.declared.statement.ElseIf.{ElseIf}
use Rattle.stan_stmt_trees.specs.declared.statement.Parameter.{Parameter}
use Rattle.stan_stmt_trees.specs.declared.statement.ReadBody.{ReadBody}
use Rattle.stan_stmt_trees.specs.declared.statement.Stmt.{Stmt}
use Rattle.stan_stmt_trees.specs.declared.statement.Value.{Value}
use Rattle.stan_stmt_trees.specs.declared.statement.Variable.{Variable}
use Rattle.stan_stmt_trees.specs.declared.statement.Adaptation.{Adaptation}
use Rattle.stan_stmt_trees.specs.declared.statement.Adapting.{Adapting}
use Rattle.stan_stmt_trees.specs.declared.statement.Adapting.TheVariants as adapting
use Rattle.stan_stmt_trees.specs.declared.statement.Form.TheOpen.{Form-F, Member-F, Case-F, Catch-F, ClassMember-F, Constant-F, ElseIf-F, Parameter-F, ReadBody-F, Stmt-F, Value-F, Variable-F}
use Rattle.stan_stmt_trees.specs.declared.statement.Form.TheFolds as folds

abbrev pub adapting_of : Adapting → model.Adapting
adapting_of (adapting.InsteadOf traits) = model.InsteadOf traits
adapting_of (adapting.Alias visibility name) = model.Alias visibility name

abbrev pub adaptation_of : Adaptation → model.Adaptation
adaptation_of x = record { from = x.from; method = x.method; adapting = adapting_of x.adapting }

abbrev pub adaptations_of : Option (List Adaptation) → Option (List model.Adaptation)
adaptations_of None = None
adaptations_of (Some xs) = Some (map adaptation_of xs)

-- ---- one layer of a value, where its parts are those of the model

abbrev pub Layer : ((A B C D E F G H I J K L : Type 0) → Type 0) → Type 0
Layer T = T model.Form model.Member lists.Case lists.Catch lists.ClassMember lists.Constant lists.ElseIf lists.Parameter lists.ReadBody model.Statement model.Value lists.Variable

abbrev pub form_step : Layer Form-F → model.Form
form_step (Form-F.Block ss) = model.Block (lists.statements ss)
form_step (Form-F.Empty end) = model.Empty end
form_step (Form-F.Expression v end) = model.Expression v end
form_step (Form-F.Echo vs end) = model.Echo (lists.values vs) end
form_step (Form-F.Return v end) = model.Return (lists.may_value v) end
form_step (Form-F.If v s es o) = model.If v s (lists.else_ifs es) (lists.may_else o)
form_step (Form-F.While v s) = model.While v s
form_step (Form-F.Do s v end) = model.Do s v end
form_step (Form-F.For vs us ws s) = model.For (lists.values vs) (lists.values us) (lists.values ws) s
form_step (Form-F.ForEach v key reference element s) = model.ForEach v (lists.may_value key) reference element s
form_step (Form-F.Switch v cs) = model.Switch v (lists.cases cs)
form_step (Form-F.Break levels end) = model.Break levels end
form_step (Form-F.Continue levels end) = model.Continue levels end
form_step (Form-F.Try ss cs b) = model.Try (lists.statements ss) (lists.catches cs) (lists.may_block b)
form_step (Form-F.Unset vs comma end) = model.Unset (lists.values vs) comma end
form_step (Form-F.Global names end) = model.Global names end
form_step (Form-F.Static vs end) = model.Static (lists.variables vs) end
form_step (Form-F.Const cs end) = model.Const (lists.constants cs) end
form_step (Form-F.Declare name number end) = model.Declare name number end
form_step (Form-F.Function reference name ps comma type ss) = model.Function reference name (lists.parameters ps) comma (may_type type) (lists.statements ss)
form_step (Form-F.Class modifiers name parent interfaces ms) = model.Class modifiers name parent interfaces (lists.members ms)
form_step (Form-F.Interface name parents ms) = model.Interface name parents (lists.members ms)
form_step (Form-F.Trait name ms) = model.Trait name (lists.members ms)

abbrev pub member_step : Layer Member-F → model.Member
member_step (Member-F.TraitUse names xs) = model.TraitUse names (adaptations_of xs)
member_step (Member-F.Constants modifiers cs) = model.ClassConstants modifiers (lists.constants cs)
member_step (Member-F.Method modifiers reference name ps comma type b) = model.Method modifiers reference name (lists.parameters ps) comma (may_type type) (lists.may_block b)
member_step (Member-F.Properties modifiers type vs) = model.Properties modifiers (may_type type) (lists.variables vs)

abbrev pub case_step : Layer Case-F → lists.Case
case_step x = record { first = x.first; value = lists.may_value x.value; mark = x.mark; statements = lists.statements x.statements }

abbrev pub catch_step : Layer Catch-F → lists.Catch
catch_step x = record { first = x.first; classes = x.classes; variable = x.variable; statements = lists.statements x.statements }

abbrev pub class_member_step : Layer ClassMember-F → lists.ClassMember
class_member_step x = record { first = x.first; form = x.form }

abbrev pub constant_step : Layer Constant-F → lists.Constant
constant_step x = record { name = x.name; value = x.value }

abbrev pub else_if_step : Layer ElseIf-F → lists.ElseIf
else_if_step x = record { first = x.first; condition = x.condition; then = x.then }

abbrev pub parameter_step : Layer Parameter-F → lists.Parameter
parameter_step x = record { first = x.first; visibility = x.visibility; declared = may_type x.declared; by_reference = x.by_reference; variadic = x.is_variadic; name = x.name; default = lists.may_value x.default }

abbrev pub body_step : Layer ReadBody-F → lists.ReadBody
body_step x = record { held = record { levels = x.levels; first = x.from; last = x.to }; statements = lists.statements x.statements }

abbrev pub statement_step : Layer Stmt-F → model.Statement
statement_step x = model.node x.first x.form

abbrev pub value_step : Layer Value-F → model.Value
value_step x = model.value (tree_of x.tree) (lists.bodies x.bodies)

abbrev pub variable_step : Layer Variable-F → lists.Variable
variable_step x = record { name = x.name; value = lists.may_value x.value }

-- ---- whole values

unfoldable pub form_of : Form → model.Form
form_of = folds.fold-Form model.Form model.Member lists.Case lists.Catch lists.ClassMember lists.Constant lists.ElseIf lists.Parameter lists.ReadBody model.Statement model.Value lists.Variable
    form_step member_step case_step catch_step class_member_step constant_step else_if_step parameter_step body_step statement_step value_step variable_step

unfoldable pub member_of : Member → model.Member
member_of = folds.fold-Member model.Form model.Member lists.Case lists.Catch lists.ClassMember lists.Constant lists.ElseIf lists.Parameter lists.ReadBody model.Statement model.Value lists.Variable
    form_step member_step case_step catch_step class_member_step constant_step else_if_step parameter_step body_step statement_step value_step variable_step

unfoldable pub case_of : Case → lists.Case
case_of = folds.fold-Case model.Form model.Member lists.Case lists.Catch lists.ClassMember lists.Constant lists.ElseIf lists.Parameter lists.ReadBody model.Statement model.Value lists.Variable
    form_step member_step case_step catch_step class_member_step constant_step else_if_step parameter_step body_step statement_step value_step variable_step

unfoldable pub catch_of : Catch → lists.Catch
catch_of = folds.fold-Catch model.Form model.Member lists.Case lists.Catch lists.ClassMember lists.Constant lists.ElseIf lists.Parameter lists.ReadBody model.Statement model.Value lists.Variable
    form_step member_step case_step catch_step class_member_step constant_step else_if_step parameter_step body_step statement_step value_step variable_step

unfoldable pub class_member_of : ClassMember → lists.ClassMember
class_member_of = folds.fold-ClassMember model.Form model.Member lists.Case lists.Catch lists.ClassMember lists.Constant lists.ElseIf lists.Parameter lists.ReadBody model.Statement model.Value lists.Variable
    form_step member_step case_step catch_step class_member_step constant_step else_if_step parameter_step body_step statement_step value_step variable_step

unfoldable pub constant_of : Constant → lists.Constant
constant_of = folds.fold-Constant model.Form model.Member lists.Case lists.Catch lists.ClassMember lists.Constant lists.ElseIf lists.Parameter lists.ReadBody model.Statement model.Value lists.Variable
    form_step member_step case_step catch_step class_member_step constant_step else_if_step parameter_step body_step statement_step value_step variable_step

unfoldable pub else_if_of : ElseIf → lists.ElseIf
else_if_of = folds.fold-ElseIf model.Form model.Member lists.Case lists.Catch lists.ClassMember lists.Constant lists.ElseIf lists.Parameter lists.ReadBody model.Statement model.Value lists.Variable
    form_step member_step case_step catch_step class_member_step constant_step else_if_step parameter_step body_step statement_step value_step variable_step

unfoldable pub parameter_of : Parameter → lists.Parameter
parameter_of = folds.fold-Parameter model.Form model.Member lists.Case lists.Catch lists.ClassMember lists.Constant lists.ElseIf lists.Parameter lists.ReadBody model.Statement model.Value lists.Variable
    form_step member_step case_step catch_step class_member_step constant_step else_if_step parameter_step body_step statement_step value_step variable_step

unfoldable pub body_of : ReadBody → lists.ReadBody
body_of = folds.fold-ReadBody model.Form model.Member lists.Case lists.Catch lists.ClassMember lists.Constant lists.ElseIf lists.Parameter lists.ReadBody model.Statement model.Value lists.Variable
    form_step member_step case_step catch_step class_member_step constant_step else_if_step parameter_step body_step statement_step value_step variable_step

unfoldable pub statement_of : Stmt → model.Statement
statement_of = folds.fold-Stmt model.Form model.Member lists.Case lists.Catch lists.ClassMember lists.Constant lists.ElseIf lists.Parameter lists.ReadBody model.Statement model.Value lists.Variable
    form_step member_step case_step catch_step class_member_step constant_step else_if_step parameter_step body_step statement_step value_step variable_step

unfoldable pub value_of : Value → model.Value
value_of = folds.fold-Value model.Form model.Member lists.Case lists.Catch lists.ClassMember lists.Constant lists.ElseIf lists.Parameter lists.ReadBody model.Statement model.Value lists.Variable
    form_step member_step case_step catch_step class_member_step constant_step else_if_step parameter_step body_step statement_step value_step variable_step

unfoldable pub variable_of : Variable → lists.Variable
variable_of = folds.fold-Variable model.Form model.Member lists.Case lists.Catch lists.ClassMember lists.Constant lists.ElseIf lists.Parameter lists.ReadBody model.Statement model.Value lists.Variable
    form_step member_step case_step catch_step class_member_step constant_step else_if_step parameter_step body_step statement_step value_step variable_step
