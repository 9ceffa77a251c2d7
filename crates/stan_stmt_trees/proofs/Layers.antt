-- The model's tree of each variant and each struct of the program's trees, and of each struct by its fields.
use Rattle.std.proofs.Common.{◌≡◌, ℕ, Bool, List, Option, Some, None, ap, sym, ◌∙◌}
use Rattle.std.specs.Prelude.{map, option_map}
use Rattle.stan_model_grammar.specs.declared.token.Token.{Token}
use Rattle.stan_model_statements.specs.Trees as model
use Rattle.stan_model_statements.specs.TreeLists as lists
use Rattle.stan_syntax.specs.declared.tree.Expr.{Expr}
use Rattle.stan_syntax.specs.declared.tree.TypeTree.{TypeTree}
use Rattle.stan_syntax.specs.Tree.{tree_of, may_type}
use Rattle.stan_stmt_trees.specs.declared.statement.Adaptation.{Adaptation}
use Rattle.stan_stmt_trees.specs.declared.statement.Form.{Form, roll-Form, fold-roll-Form}
use Rattle.stan_stmt_trees.specs.declared.statement.Member.{Member, roll-Member, fold-roll-Member}
use Rattle.stan_stmt_trees.specs.declared.statement.Case.{Case, roll-Case, fold-roll-Case, out-Case, roll-out-Case}
use Rattle.stan_stmt_trees.specs.declared.statement.Catch.{Catch, roll-Catch, fold-roll-Catch, out-Catch, roll-out-Catch}
use Rattle.stan_stmt_trees.specs.declared.statement.ClassMember.{ClassMember, roll-ClassMember, fold-roll-ClassMember, fold_out-ClassMember}
use Rattle.stan_stmt_trees.specs.declared.statement.Constant.{Constant, roll-Constant, fold-roll-Constant, out-Constant, roll-out-Constant}
use Rattle.stan_stmt_trees.specs.declared.statement.ElseIf.{ElseIf, roll-ElseIf, fold-roll-ElseIf, out-ElseIf, roll-out-ElseIf}
use Rattle.stan_stmt_trees.specs.declared.statement.Parameter.{Parameter, roll-Parameter, fold-roll-Parameter, out-Parameter, roll-out-Parameter}
use Rattle.stan_stmt_trees.specs.declared.statement.ReadBody.{ReadBody, roll-ReadBody, fold-roll-ReadBody, out-ReadBody, roll-out-ReadBody}
use Rattle.stan_stmt_trees.specs.declared.statement.Stmt.{Stmt, roll-Stmt, fold-roll-Stmt, fold_out-Stmt}
use Rattle.stan_stmt_trees.specs.declared.statement.Value.{Value, roll-Value, fold-roll-Value, out-Value, roll-out-Value}
use Rattle.stan_stmt_trees.specs.declared.statement.Variable.{Variable, roll-Variable, fold-roll-Variable, out-Variable, roll-out-Variable}
use Rattle.stan_stmt_trees.specs.declared.statement.Form.TheVariants as forms
use Rattle.stan_stmt_trees.specs.declared.statement.Member.TheVariants as members
use Rattle.stan_stmt_trees.specs.declared.statement.Form.TheOpen.{Form-F, Member-F}
use Rattle.stan_stmt_trees.specs.declared.statement.Form.TheFolds.{map-Form, map-Member}
use Rattle.stan_stmt_trees.specs.Tree.{adaptations_of, form_step, member_step, case_step, catch_step, class_member_step, constant_step, else_if_step, parameter_step, body_step, statement_step, value_step, variable_step, form_of, member_of, case_of, catch_of, class_member_of, constant_of, else_if_of, parameter_of, body_of, statement_of, value_of, variable_of}

module _ where
  abbrev Whole : ((A B C D E F G H I J K L : Type 0) → Type 0) → Type 0
  Whole T = T Form Member Case Catch ClassMember Constant ElseIf Parameter ReadBody Stmt Value Variable

  open_form : (l : Whole Form-F) → form_of (roll-Form l) ≡ form_step (map-Form Form Member Case Catch ClassMember Constant ElseIf Parameter ReadBody Stmt Value Variable model.Form model.Member lists.Case lists.Catch lists.ClassMember lists.Constant lists.ElseIf lists.Parameter lists.ReadBody model.Statement model.Value lists.Variable
      form_of member_of case_of catch_of class_member_of constant_of else_if_of parameter_of body_of statement_of value_of variable_of l)
  unfolding form_of member_of case_of catch_of class_member_of constant_of else_if_of parameter_of body_of statement_of value_of variable_of
  open_form = fold-roll-Form model.Form model.Member lists.Case lists.Catch lists.ClassMember lists.Constant lists.ElseIf lists.Parameter lists.ReadBody model.Statement model.Value lists.Variable
      form_step member_step case_step catch_step class_member_step constant_step else_if_step parameter_step body_step statement_step value_step variable_step

  open_member : (l : Whole Member-F) → member_of (roll-Member l) ≡ member_step (map-Member Form Member Case Catch ClassMember Constant ElseIf Parameter ReadBody Stmt Value Variable model.Form model.Member lists.Case lists.Catch lists.ClassMember lists.Constant lists.ElseIf lists.Parameter lists.ReadBody model.Statement model.Value lists.Variable
      form_of member_of case_of catch_of class_member_of constant_of else_if_of parameter_of body_of statement_of value_of variable_of l)
  unfolding form_of member_of case_of catch_of class_member_of constant_of else_if_of parameter_of body_of statement_of value_of variable_of
  open_member = fold-roll-Member model.Form model.Member lists.Case lists.Catch lists.ClassMember lists.Constant lists.ElseIf lists.Parameter lists.ReadBody model.Statement model.Value lists.Variable
      form_step member_step case_step catch_step class_member_step constant_step else_if_step parameter_step body_step statement_step value_step variable_step

pub form-Block : (ss : List Stmt) → form_of (forms.Block ss) ≡ model.Block (lists.statements (map statement_of ss))
form-Block ss = ap form_of (sym (forms.rolls-Block ss)) ∙ open_form (Form-F.Block ss)

pub form-Empty : (end : Token) → form_of (forms.Empty end) ≡ model.Empty end
form-Empty end = ap form_of (sym (forms.rolls-Empty end)) ∙ open_form (Form-F.Empty end)

pub form-Expression : (v : Value) (end : Token) → form_of (forms.Expression v end) ≡ model.Expression (value_of v) end
form-Expression v end = ap form_of (sym (forms.rolls-Expression v end)) ∙ open_form (Form-F.Expression v end)

pub form-Echo : (vs : List Value) (end : Token) → form_of (forms.Echo vs end) ≡ model.Echo (lists.values (map value_of vs)) end
form-Echo vs end = ap form_of (sym (forms.rolls-Echo vs end)) ∙ open_form (Form-F.Echo vs end)

pub form-Return : (v : Option Value) (end : Token) → form_of (forms.Return v end) ≡ model.Return (lists.may_value (option_map value_of v)) end
form-Return None end = ap form_of (sym (forms.rolls-Return None end)) ∙ open_form (Form-F.Return None end)
form-Return (Some v) end = ap form_of (sym (forms.rolls-Return (Some v) end)) ∙ open_form (Form-F.Return (Some v) end)

pub form-If : (v : Value) (s : Stmt) (es : List ElseIf) (o : Option Stmt) → form_of (forms.If v s es o) ≡ model.If (value_of v) (statement_of s) (lists.else_ifs (map else_if_of es)) (lists.may_else (option_map statement_of o))
form-If v s es None = ap form_of (sym (forms.rolls-If v s es None)) ∙ open_form (Form-F.If v s es None)
form-If v s es (Some o) = ap form_of (sym (forms.rolls-If v s es (Some o))) ∙ open_form (Form-F.If v s es (Some o))

pub form-While : (v : Value) (s : Stmt) → form_of (forms.While v s) ≡ model.While (value_of v) (statement_of s)
form-While v s = ap form_of (sym (forms.rolls-While v s)) ∙ open_form (Form-F.While v s)

pub form-Do : (s : Stmt) (v : Value) (end : Token) → form_of (forms.Do s v end) ≡ model.Do (statement_of s) (value_of v) end
form-Do s v end = ap form_of (sym (forms.rolls-Do s v end)) ∙ open_form (Form-F.Do s v end)

pub form-For : (vs : List Value) (us : List Value) (ws : List Value) (s : Stmt) → form_of (forms.For vs us ws s) ≡ model.For (lists.values (map value_of vs)) (lists.values (map value_of us)) (lists.values (map value_of ws)) (statement_of s)
form-For vs us ws s = ap form_of (sym (forms.rolls-For vs us ws s)) ∙ open_form (Form-F.For vs us ws s)

pub form-ForEach : (v : Value) (key : Option Value) (reference : Bool) (element : Value) (s : Stmt) → form_of (forms.ForEach v key reference element s) ≡ model.ForEach (value_of v) (lists.may_value (option_map value_of key)) reference (value_of element) (statement_of s)
form-ForEach v None reference element s = ap form_of (sym (forms.rolls-ForEach v None reference element s)) ∙ open_form (Form-F.ForEach v None reference element s)
form-ForEach v (Some key) reference element s = ap form_of (sym (forms.rolls-ForEach v (Some key) reference element s)) ∙ open_form (Form-F.ForEach v (Some key) reference element s)

pub form-Switch : (v : Value) (cs : List Case) → form_of (forms.Switch v cs) ≡ model.Switch (value_of v) (lists.cases (map case_of cs))
form-Switch v cs = ap form_of (sym (forms.rolls-Switch v cs)) ∙ open_form (Form-F.Switch v cs)

pub form-Break : (levels : Option Token) (end : Token) → form_of (forms.Break levels end) ≡ model.Break levels end
form-Break levels end = ap form_of (sym (forms.rolls-Break levels end)) ∙ open_form (Form-F.Break levels end)

pub form-Continue : (levels : Option Token) (end : Token) → form_of (forms.Continue levels end) ≡ model.Continue levels end
form-Continue levels end = ap form_of (sym (forms.rolls-Continue levels end)) ∙ open_form (Form-F.Continue levels end)

pub form-Try : (ss : List Stmt) (cs : List Catch) (b : Option (List Stmt)) → form_of (forms.Try ss cs b) ≡ model.Try (lists.statements (map statement_of ss)) (lists.catches (map catch_of cs)) (lists.may_block (option_map (map statement_of) b))
form-Try ss cs None = ap form_of (sym (forms.rolls-Try ss cs None)) ∙ open_form (Form-F.Try ss cs None)
form-Try ss cs (Some b) = ap form_of (sym (forms.rolls-Try ss cs (Some b))) ∙ open_form (Form-F.Try ss cs (Some b))

pub form-Unset : (vs : List Value) (comma : Bool) (end : Token) → form_of (forms.Unset vs comma end) ≡ model.Unset (lists.values (map value_of vs)) comma end
form-Unset vs comma end = ap form_of (sym (forms.rolls-Unset vs comma end)) ∙ open_form (Form-F.Unset vs comma end)

pub form-Global : (names : List Token) (end : Token) → form_of (forms.Global names end) ≡ model.Global names end
form-Global names end = ap form_of (sym (forms.rolls-Global names end)) ∙ open_form (Form-F.Global names end)

pub form-Static : (vs : List Variable) (end : Token) → form_of (forms.Static vs end) ≡ model.Static (lists.variables (map variable_of vs)) end
form-Static vs end = ap form_of (sym (forms.rolls-Static vs end)) ∙ open_form (Form-F.Static vs end)

pub form-Const : (cs : List Constant) (end : Token) → form_of (forms.Const cs end) ≡ model.Const (lists.constants (map constant_of cs)) end
form-Const cs end = ap form_of (sym (forms.rolls-Const cs end)) ∙ open_form (Form-F.Const cs end)

pub form-Declare : (name : Token) (number : Token) (end : Token) → form_of (forms.Declare name number end) ≡ model.Declare name number end
form-Declare name number end = ap form_of (sym (forms.rolls-Declare name number end)) ∙ open_form (Form-F.Declare name number end)

pub form-Function : (reference : Bool) (name : Token) (ps : List Parameter) (comma : Bool) (type : Option TypeTree) (ss : List Stmt) → form_of (forms.Function reference name ps comma type ss) ≡ model.Function reference name (lists.parameters (map parameter_of ps)) comma (may_type type) (lists.statements (map statement_of ss))
form-Function reference name ps comma type ss = ap form_of (sym (forms.rolls-Function reference name ps comma type ss)) ∙ open_form (Form-F.Function reference name ps comma type ss)

pub form-Class : (modifiers : List Token) (name : Token) (parent : Option Token) (interfaces : List Token) (ms : List ClassMember) → form_of (forms.Class modifiers name parent interfaces ms) ≡ model.Class modifiers name parent interfaces (lists.members (map class_member_of ms))
form-Class modifiers name parent interfaces ms = ap form_of (sym (forms.rolls-Class modifiers name parent interfaces ms)) ∙ open_form (Form-F.Class modifiers name parent interfaces ms)

pub form-Interface : (name : Token) (parents : List Token) (ms : List ClassMember) → form_of (forms.Interface name parents ms) ≡ model.Interface name parents (lists.members (map class_member_of ms))
form-Interface name parents ms = ap form_of (sym (forms.rolls-Interface name parents ms)) ∙ open_form (Form-F.Interface name parents ms)

pub form-Trait : (name : Token) (ms : List ClassMember) → form_of (forms.Trait name ms) ≡ model.Trait name (lists.members (map class_member_of ms))
form-Trait name ms = ap form_of (sym (forms.rolls-Trait name ms)) ∙ open_form (Form-F.Trait name ms)

pub member-TraitUse : (names : List Token) (xs : Option (List Adaptation)) → member_of (members.TraitUse names xs) ≡ model.TraitUse names (adaptations_of xs)
member-TraitUse names xs = ap member_of (sym (members.rolls-TraitUse names xs)) ∙ open_member (Member-F.TraitUse names xs)

pub member-Constants : (modifiers : List Token) (cs : List Constant) → member_of (members.Constants modifiers cs) ≡ model.ClassConstants modifiers (lists.constants (map constant_of cs))
member-Constants modifiers cs = ap member_of (sym (members.rolls-Constants modifiers cs)) ∙ open_member (Member-F.Constants modifiers cs)

pub member-Method : (modifiers : List Token) (reference : Bool) (name : Token) (ps : List Parameter) (comma : Bool) (type : Option TypeTree) (b : Option (List Stmt)) → member_of (members.Method modifiers reference name ps comma type b) ≡ model.Method modifiers reference name (lists.parameters (map parameter_of ps)) comma (may_type type) (lists.may_block (option_map (map statement_of) b))
member-Method modifiers reference name ps comma type None = ap member_of (sym (members.rolls-Method modifiers reference name ps comma type None)) ∙ open_member (Member-F.Method modifiers reference name ps comma type None)
member-Method modifiers reference name ps comma type (Some b) = ap member_of (sym (members.rolls-Method modifiers reference name ps comma type (Some b))) ∙ open_member (Member-F.Method modifiers reference name ps comma type (Some b))

pub member-Properties : (modifiers : List Token) (type : Option TypeTree) (vs : List Variable) → member_of (members.Properties modifiers type vs) ≡ model.Properties modifiers (may_type type) (lists.variables (map variable_of vs))
member-Properties modifiers type vs = ap member_of (sym (members.rolls-Properties modifiers type vs)) ∙ open_member (Member-F.Properties modifiers type vs)

-- ---- structs

pub case-made : (first : Token) (value : Option Value) (mark : Token) (statements : List Stmt) → case_of (roll-Case (record { first = first; value = value; mark = mark; statements = statements })) ≡ record { first = first; value = lists.may_value (option_map value_of value); mark = mark; statements = lists.statements (map statement_of statements) }
unfolding form_of member_of case_of catch_of class_member_of constant_of else_if_of parameter_of body_of statement_of value_of variable_of
case-made first None mark statements = fold-roll-Case model.Form model.Member lists.Case lists.Catch lists.ClassMember lists.Constant lists.ElseIf lists.Parameter lists.ReadBody model.Statement model.Value lists.Variable
    form_step member_step case_step catch_step class_member_step constant_step else_if_step parameter_step body_step statement_step value_step variable_step (record { first = first; value = None; mark = mark; statements = statements })
case-made first (Some value) mark statements = fold-roll-Case model.Form model.Member lists.Case lists.Catch lists.ClassMember lists.Constant lists.ElseIf lists.Parameter lists.ReadBody model.Statement model.Value lists.Variable
    form_step member_step case_step catch_step class_member_step constant_step else_if_step parameter_step body_step statement_step value_step variable_step (record { first = first; value = (Some value); mark = mark; statements = statements })

pub case_fields : (x : Case) → case_of x ≡ record { first = (out-Case x).first; value = lists.may_value (option_map value_of (out-Case x).value); mark = (out-Case x).mark; statements = lists.statements (map statement_of (out-Case x).statements) }
case_fields x = ap case_of (sym (roll-out-Case x)) ∙ case-made (out-Case x).first (out-Case x).value (out-Case x).mark (out-Case x).statements

pub catch-made : (first : Token) (classes : List Token) (variable : Option Token) (statements : List Stmt) → catch_of (roll-Catch (record { first = first; classes = classes; variable = variable; statements = statements })) ≡ record { first = first; classes = classes; variable = variable; statements = lists.statements (map statement_of statements) }
unfolding form_of member_of case_of catch_of class_member_of constant_of else_if_of parameter_of body_of statement_of value_of variable_of
catch-made first classes variable statements = fold-roll-Catch model.Form model.Member lists.Case lists.Catch lists.ClassMember lists.Constant lists.ElseIf lists.Parameter lists.ReadBody model.Statement model.Value lists.Variable
    form_step member_step case_step catch_step class_member_step constant_step else_if_step parameter_step body_step statement_step value_step variable_step (record { first = first; classes = classes; variable = variable; statements = statements })

pub catch_fields : (x : Catch) → catch_of x ≡ record { first = (out-Catch x).first; classes = (out-Catch x).classes; variable = (out-Catch x).variable; statements = lists.statements (map statement_of (out-Catch x).statements) }
catch_fields x = ap catch_of (sym (roll-out-Catch x)) ∙ catch-made (out-Catch x).first (out-Catch x).classes (out-Catch x).variable (out-Catch x).statements

pub class_member-made : (first : Token) (form : Member) → class_member_of (roll-ClassMember (record { first = first; form = form })) ≡ record { first = first; form = (member_of form) }
unfolding form_of member_of case_of catch_of class_member_of constant_of else_if_of parameter_of body_of statement_of value_of variable_of
class_member-made first form = fold-roll-ClassMember model.Form model.Member lists.Case lists.Catch lists.ClassMember lists.Constant lists.ElseIf lists.Parameter lists.ReadBody model.Statement model.Value lists.Variable
    form_step member_step case_step catch_step class_member_step constant_step else_if_step parameter_step body_step statement_step value_step variable_step (record { first = first; form = form })

pub class_member_fields : (x : ClassMember) → class_member_of x ≡ record { first = x.first; form = (member_of x.form) }
unfolding form_of member_of case_of catch_of class_member_of constant_of else_if_of parameter_of body_of statement_of value_of variable_of
class_member_fields x = fold_out-ClassMember model.Form model.Member lists.Case lists.Catch lists.ClassMember lists.Constant lists.ElseIf lists.Parameter lists.ReadBody model.Statement model.Value lists.Variable
    form_step member_step case_step catch_step class_member_step constant_step else_if_step parameter_step body_step statement_step value_step variable_step x

pub constant-made : (name : Token) (value : Value) → constant_of (roll-Constant (record { name = name; value = value })) ≡ record { name = name; value = (value_of value) }
unfolding form_of member_of case_of catch_of class_member_of constant_of else_if_of parameter_of body_of statement_of value_of variable_of
constant-made name value = fold-roll-Constant model.Form model.Member lists.Case lists.Catch lists.ClassMember lists.Constant lists.ElseIf lists.Parameter lists.ReadBody model.Statement model.Value lists.Variable
    form_step member_step case_step catch_step class_member_step constant_step else_if_step parameter_step body_step statement_step value_step variable_step (record { name = name; value = value })

pub constant_fields : (x : Constant) → constant_of x ≡ record { name = (out-Constant x).name; value = (value_of (out-Constant x).value) }
constant_fields x = ap constant_of (sym (roll-out-Constant x)) ∙ constant-made (out-Constant x).name (out-Constant x).value

pub else_if-made : (first : Token) (condition : Value) (then : Stmt) → else_if_of (roll-ElseIf (record { first = first; condition = condition; then = then })) ≡ record { first = first; condition = (value_of condition); then = (statement_of then) }
unfolding form_of member_of case_of catch_of class_member_of constant_of else_if_of parameter_of body_of statement_of value_of variable_of
else_if-made first condition then = fold-roll-ElseIf model.Form model.Member lists.Case lists.Catch lists.ClassMember lists.Constant lists.ElseIf lists.Parameter lists.ReadBody model.Statement model.Value lists.Variable
    form_step member_step case_step catch_step class_member_step constant_step else_if_step parameter_step body_step statement_step value_step variable_step (record { first = first; condition = condition; then = then })

pub else_if_fields : (x : ElseIf) → else_if_of x ≡ record { first = (out-ElseIf x).first; condition = (value_of (out-ElseIf x).condition); then = (statement_of (out-ElseIf x).then) }
else_if_fields x = ap else_if_of (sym (roll-out-ElseIf x)) ∙ else_if-made (out-ElseIf x).first (out-ElseIf x).condition (out-ElseIf x).then

pub parameter-made : (first : Token) (visibility : Option Token) (declared : Option TypeTree) (by_reference : Bool) (is_variadic : Bool) (name : Token) (default : Option Value) → parameter_of (roll-Parameter (record { first = first; visibility = visibility; declared = declared; by_reference = by_reference; is_variadic = is_variadic; name = name; default = default })) ≡ record { first = first; visibility = visibility; declared = may_type declared; by_reference = by_reference; variadic = is_variadic; name = name; default = lists.may_value (option_map value_of default) }
unfolding form_of member_of case_of catch_of class_member_of constant_of else_if_of parameter_of body_of statement_of value_of variable_of
parameter-made first visibility declared by_reference is_variadic name None = fold-roll-Parameter model.Form model.Member lists.Case lists.Catch lists.ClassMember lists.Constant lists.ElseIf lists.Parameter lists.ReadBody model.Statement model.Value lists.Variable
    form_step member_step case_step catch_step class_member_step constant_step else_if_step parameter_step body_step statement_step value_step variable_step (record { first = first; visibility = visibility; declared = declared; by_reference = by_reference; is_variadic = is_variadic; name = name; default = None })
parameter-made first visibility declared by_reference is_variadic name (Some default) = fold-roll-Parameter model.Form model.Member lists.Case lists.Catch lists.ClassMember lists.Constant lists.ElseIf lists.Parameter lists.ReadBody model.Statement model.Value lists.Variable
    form_step member_step case_step catch_step class_member_step constant_step else_if_step parameter_step body_step statement_step value_step variable_step (record { first = first; visibility = visibility; declared = declared; by_reference = by_reference; is_variadic = is_variadic; name = name; default = (Some default) })

pub parameter_fields : (x : Parameter) → parameter_of x ≡ record { first = (out-Parameter x).first; visibility = (out-Parameter x).visibility; declared = may_type (out-Parameter x).declared; by_reference = (out-Parameter x).by_reference; variadic = (out-Parameter x).is_variadic; name = (out-Parameter x).name; default = lists.may_value (option_map value_of (out-Parameter x).default) }
parameter_fields x = ap parameter_of (sym (roll-out-Parameter x)) ∙ parameter-made (out-Parameter x).first (out-Parameter x).visibility (out-Parameter x).declared (out-Parameter x).by_reference (out-Parameter x).is_variadic (out-Parameter x).name (out-Parameter x).default

pub body-made : (levels : ℕ) (from : ℕ) (to : ℕ) (statements : List Stmt) → body_of (roll-ReadBody (record { levels = levels; from = from; to = to; statements = statements })) ≡ record { held = record { levels = levels; first = from; last = to }; statements = lists.statements (map statement_of statements) }
unfolding form_of member_of case_of catch_of class_member_of constant_of else_if_of parameter_of body_of statement_of value_of variable_of
body-made levels from to statements = fold-roll-ReadBody model.Form model.Member lists.Case lists.Catch lists.ClassMember lists.Constant lists.ElseIf lists.Parameter lists.ReadBody model.Statement model.Value lists.Variable
    form_step member_step case_step catch_step class_member_step constant_step else_if_step parameter_step body_step statement_step value_step variable_step (record { levels = levels; from = from; to = to; statements = statements })

pub body_fields : (x : ReadBody) → body_of x ≡ record { held = record { levels = (out-ReadBody x).levels; first = (out-ReadBody x).from; last = (out-ReadBody x).to }; statements = lists.statements (map statement_of (out-ReadBody x).statements) }
body_fields x = ap body_of (sym (roll-out-ReadBody x)) ∙ body-made (out-ReadBody x).levels (out-ReadBody x).from (out-ReadBody x).to (out-ReadBody x).statements

pub statement-made : (first : Token) (form : Form) → statement_of (roll-Stmt (record { first = first; form = form })) ≡ model.node first (form_of form)
unfolding form_of member_of case_of catch_of class_member_of constant_of else_if_of parameter_of body_of statement_of value_of variable_of
statement-made first form = fold-roll-Stmt model.Form model.Member lists.Case lists.Catch lists.ClassMember lists.Constant lists.ElseIf lists.Parameter lists.ReadBody model.Statement model.Value lists.Variable
    form_step member_step case_step catch_step class_member_step constant_step else_if_step parameter_step body_step statement_step value_step variable_step (record { first = first; form = form })

pub statement_fields : (x : Stmt) → statement_of x ≡ model.node x.first (form_of x.form)
unfolding form_of member_of case_of catch_of class_member_of constant_of else_if_of parameter_of body_of statement_of value_of variable_of
statement_fields x = fold_out-Stmt model.Form model.Member lists.Case lists.Catch lists.ClassMember lists.Constant lists.ElseIf lists.Parameter lists.ReadBody model.Statement model.Value lists.Variable
    form_step member_step case_step catch_step class_member_step constant_step else_if_step parameter_step body_step statement_step value_step variable_step x

pub value-made : (tree : Expr) (bodies : List ReadBody) → value_of (roll-Value (record { tree = tree; bodies = bodies })) ≡ model.value (tree_of tree) (lists.bodies (map body_of bodies))
unfolding form_of member_of case_of catch_of class_member_of constant_of else_if_of parameter_of body_of statement_of value_of variable_of
value-made tree bodies = fold-roll-Value model.Form model.Member lists.Case lists.Catch lists.ClassMember lists.Constant lists.ElseIf lists.Parameter lists.ReadBody model.Statement model.Value lists.Variable
    form_step member_step case_step catch_step class_member_step constant_step else_if_step parameter_step body_step statement_step value_step variable_step (record { tree = tree; bodies = bodies })

pub value_fields : (x : Value) → value_of x ≡ model.value (tree_of (out-Value x).tree) (lists.bodies (map body_of (out-Value x).bodies))
value_fields x = ap value_of (sym (roll-out-Value x)) ∙ value-made (out-Value x).tree (out-Value x).bodies

pub variable-made : (name : Token) (value : Option Value) → variable_of (roll-Variable (record { name = name; value = value })) ≡ record { name = name; value = lists.may_value (option_map value_of value) }
unfolding form_of member_of case_of catch_of class_member_of constant_of else_if_of parameter_of body_of statement_of value_of variable_of
variable-made name None = fold-roll-Variable model.Form model.Member lists.Case lists.Catch lists.ClassMember lists.Constant lists.ElseIf lists.Parameter lists.ReadBody model.Statement model.Value lists.Variable
    form_step member_step case_step catch_step class_member_step constant_step else_if_step parameter_step body_step statement_step value_step variable_step (record { name = name; value = None })
variable-made name (Some value) = fold-roll-Variable model.Form model.Member lists.Case lists.Catch lists.ClassMember lists.Constant lists.ElseIf lists.Parameter lists.ReadBody model.Statement model.Value lists.Variable
    form_step member_step case_step catch_step class_member_step constant_step else_if_step parameter_step body_step statement_step value_step variable_step (record { name = name; value = (Some value) })

pub variable_fields : (x : Variable) → variable_of x ≡ record { name = (out-Variable x).name; value = lists.may_value (option_map value_of (out-Variable x).value) }
variable_fields x = ap variable_of (sym (roll-out-Variable x)) ∙ variable-made (out-Variable x).name (out-Variable x).value

pub ruleset layers = (form-Block, form-Empty, form-Expression, form-Echo, form-Return, form-If, form-While, form-Do, form-For, form-ForEach, form-Switch, form-Break, form-Continue, form-Try, form-Unset, form-Global, form-Static, form-Const, form-Declare, form-Function, form-Class, form-Interface, form-Trait, member-TraitUse, member-Constants, member-Method, member-Properties, case-made, catch-made, class_member-made, constant-made, else_if-made, parameter-made, body-made, statement-made, value-made, variable-made)
