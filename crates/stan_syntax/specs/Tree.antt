-- The tree of the model that a value of the program stands for, by one layer of it at a time.
use Rattle.std.specs.Prelude.{Option, Some, None, map}
use Rattle.stan_model_grammar.specs.Trees as model
use Rattle.stan_model_grammar.specs.TreeLists.{Operated, steps, listed, operation_steps, chain_stratum, may_be_called, default_of, statements}
use Rattle.stan_syntax.specs.declared.tree.TypeTree.{TypeTree}
use Rattle.stan_syntax.specs.declared.tree.TypeTree.TheVariants as types
use Rattle.stan_syntax.specs.declared.tree.Expr.{Expr}
use Rattle.stan_syntax.specs.declared.tree.Form.{Form}
use Rattle.stan_syntax.specs.declared.tree.Arguments.{Arguments}
use Rattle.stan_syntax.specs.declared.tree.Argument.{Argument}
use Rattle.stan_syntax.specs.declared.tree.Element.{Element}
use Rattle.stan_syntax.specs.declared.tree.Parameter.{Parameter}
use Rattle.stan_syntax.specs.declared.tree.Arm.{Arm}
use Rattle.stan_syntax.specs.declared.tree.ClassReference.{ClassReference}
use Rattle.stan_syntax.specs.declared.tree.Suffix.{Suffix}
use Rattle.stan_syntax.specs.declared.tree.MemberName.{MemberName}
use Rattle.stan_syntax.specs.declared.tree.Operation.{Operation}
use Rattle.stan_syntax.specs.declared.tree.TextPart.{TextPart}
use Rattle.stan_syntax.specs.declared.tree.Body.{Body}
use Rattle.stan_syntax.specs.declared.tree.Stmt.{Stmt}
use Rattle.stan_syntax.specs.declared.tree.Argument.TheOpen.{Expr-F, Form-F, Arguments-F, Argument-F, Element-F, Parameter-F, Arm-F, ClassReference-F, Suffix-F, MemberName-F, Operation-F, TextPart-F, Body-F, Stmt-F}
use Rattle.stan_syntax.specs.declared.tree.Argument.TheFolds as folds

abbrev pub type_of : TypeTree → model.TypeTree
type_of (types.Nullable first name) = model.Nullable first name
type_of (types.Union name more) = model.Union name more

abbrev pub may_type : Option TypeTree → Option model.TypeTree
may_type None = None
may_type (Some type) = Some (type_of type)

-- ---- one layer of a value, where its parts are those of the model

abbrev pub Layer : ((A B C D E F G H I J K L M N : Type 0) → Type 0) → Type 0
Layer T = T model.Item model.Item model.Body model.ClassReference model.Item model.Form model.MemberName model.Statement model.Step model.Step model.Items model.Tree Operated model.Item

abbrev pub argument_step : Layer Argument-F → model.Item
argument_step (Argument-F.Positional e) = model.Positional e
argument_step (Argument-F.«Argument::Spread» e) = model.Spread e
argument_step (Argument-F.«Argument::Named» t e) = model.Named t e

abbrev pub arm_step : Layer Arm-F → model.Item
arm_step (Arm-F.Conditions es comma e) = model.Arm (listed (map model.Positional es) comma) e
arm_step (Arm-F.Default comma e) = model.DefaultArm comma e

abbrev pub body_step : Layer Body-F → model.Body
body_step (Body-F.Held from to) = model.Held from to
body_step (Body-F.Read ss) = model.Read (statements ss)

abbrev pub class_step : Layer ClassReference-F → model.ClassReference
class_step (ClassReference-F.«ClassReference::Named» t) = model.NamedClass t
class_step (ClassReference-F.Variable t ss) = model.VariableClass t (steps ss)
class_step (ClassReference-F.«ClassReference::Scoped» t u ss) = model.ScopedClass t u (steps ss)
class_step (ClassReference-F.«ClassReference::Computed» e) = model.ComputedClass e

abbrev pub element_step : Layer Element-F → model.Item
element_step (Element-F.«Element::Spread» e) = model.Spread e
element_step (Element-F.Value reference e) = model.Element reference e
element_step (Element-F.Keyed key reference e) = model.KeyedElement key reference e

abbrev pub form_step : Layer Form-F → model.Form
form_step (Form-F.Leaf leaf) = model.Single leaf
form_step (Form-F.Brackets e) = model.Brackets e
form_step (Form-F.Array style es comma) = model.Array style (listed es comma)
form_step (Form-F.IsSet es comma) = model.IsSet (listed (map model.Positional es) comma)
form_step (Form-F.Empty e) = model.Empty e
form_step (Form-F.Exit es) = model.Exit (may_be_called es)
form_step (Form-F.New class es) = model.New class (may_be_called es)
form_step (Form-F.Match e arms comma) = model.Match e (listed arms comma)
form_step (Form-F.Closure static reference parameters comma captures captures_comma type body) =
    model.Closure static reference (listed parameters comma) (listed (map model.Captured captures) captures_comma) (may_type type) body
form_step (Form-F.Arrow static reference parameters comma type e) = model.Arrow static reference (listed parameters comma) (may_type type) e
form_step (Form-F.Text parts) = model.Text (steps parts)
form_step (Form-F.Post e ss) = model.Post e (steps ss)
form_step (Form-F.Prefix o e) = model.Prefix o e
form_step (Form-F.Assignment target o e) = model.Assignment target o e
form_step (Form-F.Chain e os) = model.Chain (chain_stratum os) e (operation_steps os)
form_step (Form-F.Binary d t o e) = model.Binary d t o e
form_step (Form-F.Conditional c d e) = model.Conditional c d e

abbrev pub member_step : Layer MemberName-F → model.MemberName
member_step (MemberName-F.«MemberName::Named» t) = model.NamedMember t
member_step (MemberName-F.«MemberName::Computed» e) = model.ComputedMember e

abbrev pub statement_step : Layer Stmt-F → model.Statement
statement_step (Stmt-F.«Stmt::Expression» e) = model.Expression e

abbrev pub suffix_step : Layer Suffix-F → model.Step
suffix_step Suffix-F.Push = model.Push
suffix_step (Suffix-F.Index e) = model.Index e
suffix_step (Suffix-F.Property nullsafe name es) = model.Property nullsafe name (may_be_called es)
suffix_step (Suffix-F.«Suffix::Scoped» t es) = model.Scoped t (may_be_called es)
suffix_step (Suffix-F.Call es) = model.Call es
suffix_step Suffix-F.Increment = model.Increment
suffix_step Suffix-F.Decrement = model.Decrement

abbrev pub part_step : Layer TextPart-F → model.Step
part_step (TextPart-F.Token t) = model.Part t
part_step (TextPart-F.«TextPart::Expression» e) = model.Inserted e

abbrev pub arguments_step : Layer Arguments-F → model.Items
arguments_step es = listed es.list es.comma

abbrev pub expr_step : Layer Expr-F → model.Tree
expr_step e = model.node e.first e.form

abbrev pub operation_step : Layer Operation-F → Operated
operation_step o = record { token = o.token; operator = o.operator; operand = o.operand }

abbrev pub parameter_step : Layer Parameter-F → model.Item
parameter_step p = model.Parameter p.visibility (may_type p.declared) p.by_reference p.is_variadic p.variable (default_of p.default)

-- ---- whole values

unfoldable pub tree_of : Expr → model.Tree
tree_of = folds.fold-Expr model.Item model.Item model.Body model.ClassReference model.Item model.Form model.MemberName model.Statement model.Step model.Step model.Items model.Tree Operated model.Item
    argument_step arm_step body_step class_step element_step form_step member_step statement_step suffix_step part_step arguments_step expr_step operation_step parameter_step

unfoldable pub form_of : Form → model.Form
form_of = folds.fold-Form model.Item model.Item model.Body model.ClassReference model.Item model.Form model.MemberName model.Statement model.Step model.Step model.Items model.Tree Operated model.Item
    argument_step arm_step body_step class_step element_step form_step member_step statement_step suffix_step part_step arguments_step expr_step operation_step parameter_step

unfoldable pub arguments_of : Arguments → model.Items
arguments_of = folds.fold-Arguments model.Item model.Item model.Body model.ClassReference model.Item model.Form model.MemberName model.Statement model.Step model.Step model.Items model.Tree Operated model.Item
    argument_step arm_step body_step class_step element_step form_step member_step statement_step suffix_step part_step arguments_step expr_step operation_step parameter_step

unfoldable pub argument_of : Argument → model.Item
argument_of = folds.fold-Argument model.Item model.Item model.Body model.ClassReference model.Item model.Form model.MemberName model.Statement model.Step model.Step model.Items model.Tree Operated model.Item
    argument_step arm_step body_step class_step element_step form_step member_step statement_step suffix_step part_step arguments_step expr_step operation_step parameter_step

unfoldable pub element_of : Element → model.Item
element_of = folds.fold-Element model.Item model.Item model.Body model.ClassReference model.Item model.Form model.MemberName model.Statement model.Step model.Step model.Items model.Tree Operated model.Item
    argument_step arm_step body_step class_step element_step form_step member_step statement_step suffix_step part_step arguments_step expr_step operation_step parameter_step

unfoldable pub parameter_of : Parameter → model.Item
parameter_of = folds.fold-Parameter model.Item model.Item model.Body model.ClassReference model.Item model.Form model.MemberName model.Statement model.Step model.Step model.Items model.Tree Operated model.Item
    argument_step arm_step body_step class_step element_step form_step member_step statement_step suffix_step part_step arguments_step expr_step operation_step parameter_step

unfoldable pub arm_of : Arm → model.Item
arm_of = folds.fold-Arm model.Item model.Item model.Body model.ClassReference model.Item model.Form model.MemberName model.Statement model.Step model.Step model.Items model.Tree Operated model.Item
    argument_step arm_step body_step class_step element_step form_step member_step statement_step suffix_step part_step arguments_step expr_step operation_step parameter_step

unfoldable pub class_of : ClassReference → model.ClassReference
class_of = folds.fold-ClassReference model.Item model.Item model.Body model.ClassReference model.Item model.Form model.MemberName model.Statement model.Step model.Step model.Items model.Tree Operated model.Item
    argument_step arm_step body_step class_step element_step form_step member_step statement_step suffix_step part_step arguments_step expr_step operation_step parameter_step

unfoldable pub suffix_of : Suffix → model.Step
suffix_of = folds.fold-Suffix model.Item model.Item model.Body model.ClassReference model.Item model.Form model.MemberName model.Statement model.Step model.Step model.Items model.Tree Operated model.Item
    argument_step arm_step body_step class_step element_step form_step member_step statement_step suffix_step part_step arguments_step expr_step operation_step parameter_step

unfoldable pub member_of : MemberName → model.MemberName
member_of = folds.fold-MemberName model.Item model.Item model.Body model.ClassReference model.Item model.Form model.MemberName model.Statement model.Step model.Step model.Items model.Tree Operated model.Item
    argument_step arm_step body_step class_step element_step form_step member_step statement_step suffix_step part_step arguments_step expr_step operation_step parameter_step

unfoldable pub operation_of : Operation → Operated
operation_of = folds.fold-Operation model.Item model.Item model.Body model.ClassReference model.Item model.Form model.MemberName model.Statement model.Step model.Step model.Items model.Tree Operated model.Item
    argument_step arm_step body_step class_step element_step form_step member_step statement_step suffix_step part_step arguments_step expr_step operation_step parameter_step

unfoldable pub part_of : TextPart → model.Step
part_of = folds.fold-TextPart model.Item model.Item model.Body model.ClassReference model.Item model.Form model.MemberName model.Statement model.Step model.Step model.Items model.Tree Operated model.Item
    argument_step arm_step body_step class_step element_step form_step member_step statement_step suffix_step part_step arguments_step expr_step operation_step parameter_step

unfoldable pub body_of : Body → model.Body
body_of = folds.fold-Body model.Item model.Item model.Body model.ClassReference model.Item model.Form model.MemberName model.Statement model.Step model.Step model.Items model.Tree Operated model.Item
    argument_step arm_step body_step class_step element_step form_step member_step statement_step suffix_step part_step arguments_step expr_step operation_step parameter_step

unfoldable pub statement_of : Stmt → model.Statement
statement_of = folds.fold-Stmt model.Item model.Item model.Body model.ClassReference model.Item model.Form model.MemberName model.Statement model.Step model.Step model.Items model.Tree Operated model.Item
    argument_step arm_step body_step class_step element_step form_step member_step statement_step suffix_step part_step arguments_step expr_step operation_step parameter_step
