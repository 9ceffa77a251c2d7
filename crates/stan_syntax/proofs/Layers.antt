-- The model's tree of each variant and each struct of the program's trees, and of each struct by its fields.
use Rattle.std.proofs.Common.{◌≡◌, ℕ, Bool, List, Option, Some, None, ap, sym, ◌∙◌}
use Rattle.std.specs.Prelude.{map, option_map}
use Rattle.stan_model_grammar.specs.declared.operators.ArrayStyle.{ArrayStyle}
use Rattle.stan_model_grammar.specs.declared.operators.AssignmentOperator.{AssignmentOperator}
use Rattle.stan_model_grammar.specs.declared.operators.BinaryOperator.{BinaryOperator}
use Rattle.stan_model_grammar.specs.declared.operators.Leaf.{Leaf}
use Rattle.stan_model_grammar.specs.declared.operators.PrefixOperator.{PrefixOperator}
use Rattle.stan_model_grammar.specs.declared.operators.Visibility.{Visibility}
use Rattle.stan_model_grammar.specs.declared.token.Token.{Token}
use Rattle.stan_model_grammar.specs.Trees as model
use Rattle.stan_syntax.specs.declared.tree.TypeTree.{TypeTree}
use Rattle.stan_syntax.specs.declared.tree.Argument.{Argument, roll-Argument, fold-roll-Argument}
use Rattle.stan_syntax.specs.declared.tree.Arm.{Arm, roll-Arm, fold-roll-Arm}
use Rattle.stan_syntax.specs.declared.tree.Body.{Body, roll-Body, fold-roll-Body}
use Rattle.stan_syntax.specs.declared.tree.ClassReference.{ClassReference, roll-ClassReference, fold-roll-ClassReference}
use Rattle.stan_syntax.specs.declared.tree.Element.{Element, roll-Element, fold-roll-Element}
use Rattle.stan_syntax.specs.declared.tree.Form.{Form, roll-Form, fold-roll-Form}
use Rattle.stan_syntax.specs.declared.tree.MemberName.{MemberName, roll-MemberName, fold-roll-MemberName}
use Rattle.stan_syntax.specs.declared.tree.Stmt.{Stmt, roll-Stmt, fold-roll-Stmt}
use Rattle.stan_syntax.specs.declared.tree.Suffix.{Suffix, roll-Suffix, fold-roll-Suffix}
use Rattle.stan_syntax.specs.declared.tree.TextPart.{TextPart, roll-TextPart, fold-roll-TextPart}
use Rattle.stan_syntax.specs.declared.tree.Arguments.{Arguments, roll-Arguments, fold-roll-Arguments, fold_out-Arguments}
use Rattle.stan_syntax.specs.declared.tree.Expr.{Expr, roll-Expr, fold-roll-Expr, fold_out-Expr}
use Rattle.stan_syntax.specs.declared.tree.Operation.{Operation, roll-Operation, fold-roll-Operation, fold_out-Operation}
use Rattle.stan_syntax.specs.declared.tree.Parameter.{Parameter, roll-Parameter, fold-roll-Parameter, out-Parameter, roll-out-Parameter}
use Rattle.stan_syntax.specs.declared.tree.Argument.TheVariants as arguments
use Rattle.stan_syntax.specs.declared.tree.Arm.TheVariants as arm
use Rattle.stan_syntax.specs.declared.tree.Body.TheVariants as bodies
use Rattle.stan_syntax.specs.declared.tree.ClassReference.TheVariants as classes
use Rattle.stan_syntax.specs.declared.tree.Element.TheVariants as elements
use Rattle.stan_syntax.specs.declared.tree.Form.TheVariants as forms
use Rattle.stan_syntax.specs.declared.tree.MemberName.TheVariants as members
use Rattle.stan_syntax.specs.declared.tree.Stmt.TheVariants as statements
use Rattle.stan_syntax.specs.declared.tree.Suffix.TheVariants as suffixes
use Rattle.stan_syntax.specs.declared.tree.TextPart.TheVariants as parts
use Rattle.stan_syntax.specs.declared.tree.Argument.TheOpen.{Argument-F, Arm-F, Body-F, ClassReference-F, Element-F, Form-F, MemberName-F, Stmt-F, Suffix-F, TextPart-F}
use Rattle.stan_syntax.specs.declared.tree.Argument.TheFolds.{map-Argument, map-Arm, map-Body, map-ClassReference, map-Element, map-Form, map-MemberName, map-Stmt, map-Suffix, map-TextPart}
use Rattle.stan_model_grammar.specs.TreeLists.{Operated, listed, operation_steps, chain_stratum, steps, may_be_called, default_of, statements as statements_of}
use Rattle.stan_syntax.specs.Tree.{may_type, argument_step, arm_step, body_step, class_step, element_step, form_step, member_step, statement_step, suffix_step, part_step, arguments_step, expr_step, operation_step, parameter_step, argument_of, arm_of, body_of, class_of, element_of, form_of, member_of, statement_of, suffix_of, part_of, arguments_of, tree_of, operation_of, parameter_of}

module _ where
  abbrev Whole : ((A B C D E F G H I J K L M N : Type 0) → Type 0) → Type 0
  Whole T = T Argument Arm Body ClassReference Element Form MemberName Stmt Suffix TextPart Arguments Expr Operation Parameter

  open_argument : (l : Whole Argument-F) → argument_of (roll-Argument l) ≡ argument_step (map-Argument Argument Arm Body ClassReference Element Form MemberName Stmt Suffix TextPart Arguments Expr Operation Parameter model.Item model.Item model.Body model.ClassReference model.Item model.Form model.MemberName model.Statement model.Step model.Step model.Items model.Tree Operated model.Item
      argument_of arm_of body_of class_of element_of form_of member_of statement_of suffix_of part_of arguments_of tree_of operation_of parameter_of l)
  unfolding argument_of arm_of body_of class_of element_of form_of member_of statement_of suffix_of part_of arguments_of tree_of operation_of parameter_of
  open_argument = fold-roll-Argument model.Item model.Item model.Body model.ClassReference model.Item model.Form model.MemberName model.Statement model.Step model.Step model.Items model.Tree Operated model.Item
      argument_step arm_step body_step class_step element_step form_step member_step statement_step suffix_step part_step arguments_step expr_step operation_step parameter_step

  open_arm : (l : Whole Arm-F) → arm_of (roll-Arm l) ≡ arm_step (map-Arm Argument Arm Body ClassReference Element Form MemberName Stmt Suffix TextPart Arguments Expr Operation Parameter model.Item model.Item model.Body model.ClassReference model.Item model.Form model.MemberName model.Statement model.Step model.Step model.Items model.Tree Operated model.Item
      argument_of arm_of body_of class_of element_of form_of member_of statement_of suffix_of part_of arguments_of tree_of operation_of parameter_of l)
  unfolding argument_of arm_of body_of class_of element_of form_of member_of statement_of suffix_of part_of arguments_of tree_of operation_of parameter_of
  open_arm = fold-roll-Arm model.Item model.Item model.Body model.ClassReference model.Item model.Form model.MemberName model.Statement model.Step model.Step model.Items model.Tree Operated model.Item
      argument_step arm_step body_step class_step element_step form_step member_step statement_step suffix_step part_step arguments_step expr_step operation_step parameter_step

  open_body : (l : Whole Body-F) → body_of (roll-Body l) ≡ body_step (map-Body Argument Arm Body ClassReference Element Form MemberName Stmt Suffix TextPart Arguments Expr Operation Parameter model.Item model.Item model.Body model.ClassReference model.Item model.Form model.MemberName model.Statement model.Step model.Step model.Items model.Tree Operated model.Item
      argument_of arm_of body_of class_of element_of form_of member_of statement_of suffix_of part_of arguments_of tree_of operation_of parameter_of l)
  unfolding argument_of arm_of body_of class_of element_of form_of member_of statement_of suffix_of part_of arguments_of tree_of operation_of parameter_of
  open_body = fold-roll-Body model.Item model.Item model.Body model.ClassReference model.Item model.Form model.MemberName model.Statement model.Step model.Step model.Items model.Tree Operated model.Item
      argument_step arm_step body_step class_step element_step form_step member_step statement_step suffix_step part_step arguments_step expr_step operation_step parameter_step

  open_class : (l : Whole ClassReference-F) → class_of (roll-ClassReference l) ≡ class_step (map-ClassReference Argument Arm Body ClassReference Element Form MemberName Stmt Suffix TextPart Arguments Expr Operation Parameter model.Item model.Item model.Body model.ClassReference model.Item model.Form model.MemberName model.Statement model.Step model.Step model.Items model.Tree Operated model.Item
      argument_of arm_of body_of class_of element_of form_of member_of statement_of suffix_of part_of arguments_of tree_of operation_of parameter_of l)
  unfolding argument_of arm_of body_of class_of element_of form_of member_of statement_of suffix_of part_of arguments_of tree_of operation_of parameter_of
  open_class = fold-roll-ClassReference model.Item model.Item model.Body model.ClassReference model.Item model.Form model.MemberName model.Statement model.Step model.Step model.Items model.Tree Operated model.Item
      argument_step arm_step body_step class_step element_step form_step member_step statement_step suffix_step part_step arguments_step expr_step operation_step parameter_step

  open_element : (l : Whole Element-F) → element_of (roll-Element l) ≡ element_step (map-Element Argument Arm Body ClassReference Element Form MemberName Stmt Suffix TextPart Arguments Expr Operation Parameter model.Item model.Item model.Body model.ClassReference model.Item model.Form model.MemberName model.Statement model.Step model.Step model.Items model.Tree Operated model.Item
      argument_of arm_of body_of class_of element_of form_of member_of statement_of suffix_of part_of arguments_of tree_of operation_of parameter_of l)
  unfolding argument_of arm_of body_of class_of element_of form_of member_of statement_of suffix_of part_of arguments_of tree_of operation_of parameter_of
  open_element = fold-roll-Element model.Item model.Item model.Body model.ClassReference model.Item model.Form model.MemberName model.Statement model.Step model.Step model.Items model.Tree Operated model.Item
      argument_step arm_step body_step class_step element_step form_step member_step statement_step suffix_step part_step arguments_step expr_step operation_step parameter_step

  open_form : (l : Whole Form-F) → form_of (roll-Form l) ≡ form_step (map-Form Argument Arm Body ClassReference Element Form MemberName Stmt Suffix TextPart Arguments Expr Operation Parameter model.Item model.Item model.Body model.ClassReference model.Item model.Form model.MemberName model.Statement model.Step model.Step model.Items model.Tree Operated model.Item
      argument_of arm_of body_of class_of element_of form_of member_of statement_of suffix_of part_of arguments_of tree_of operation_of parameter_of l)
  unfolding argument_of arm_of body_of class_of element_of form_of member_of statement_of suffix_of part_of arguments_of tree_of operation_of parameter_of
  open_form = fold-roll-Form model.Item model.Item model.Body model.ClassReference model.Item model.Form model.MemberName model.Statement model.Step model.Step model.Items model.Tree Operated model.Item
      argument_step arm_step body_step class_step element_step form_step member_step statement_step suffix_step part_step arguments_step expr_step operation_step parameter_step

  open_member : (l : Whole MemberName-F) → member_of (roll-MemberName l) ≡ member_step (map-MemberName Argument Arm Body ClassReference Element Form MemberName Stmt Suffix TextPart Arguments Expr Operation Parameter model.Item model.Item model.Body model.ClassReference model.Item model.Form model.MemberName model.Statement model.Step model.Step model.Items model.Tree Operated model.Item
      argument_of arm_of body_of class_of element_of form_of member_of statement_of suffix_of part_of arguments_of tree_of operation_of parameter_of l)
  unfolding argument_of arm_of body_of class_of element_of form_of member_of statement_of suffix_of part_of arguments_of tree_of operation_of parameter_of
  open_member = fold-roll-MemberName model.Item model.Item model.Body model.ClassReference model.Item model.Form model.MemberName model.Statement model.Step model.Step model.Items model.Tree Operated model.Item
      argument_step arm_step body_step class_step element_step form_step member_step statement_step suffix_step part_step arguments_step expr_step operation_step parameter_step

  open_statement : (l : Whole Stmt-F) → statement_of (roll-Stmt l) ≡ statement_step (map-Stmt Argument Arm Body ClassReference Element Form MemberName Stmt Suffix TextPart Arguments Expr Operation Parameter model.Item model.Item model.Body model.ClassReference model.Item model.Form model.MemberName model.Statement model.Step model.Step model.Items model.Tree Operated model.Item
      argument_of arm_of body_of class_of element_of form_of member_of statement_of suffix_of part_of arguments_of tree_of operation_of parameter_of l)
  unfolding argument_of arm_of body_of class_of element_of form_of member_of statement_of suffix_of part_of arguments_of tree_of operation_of parameter_of
  open_statement = fold-roll-Stmt model.Item model.Item model.Body model.ClassReference model.Item model.Form model.MemberName model.Statement model.Step model.Step model.Items model.Tree Operated model.Item
      argument_step arm_step body_step class_step element_step form_step member_step statement_step suffix_step part_step arguments_step expr_step operation_step parameter_step

  open_suffix : (l : Whole Suffix-F) → suffix_of (roll-Suffix l) ≡ suffix_step (map-Suffix Argument Arm Body ClassReference Element Form MemberName Stmt Suffix TextPart Arguments Expr Operation Parameter model.Item model.Item model.Body model.ClassReference model.Item model.Form model.MemberName model.Statement model.Step model.Step model.Items model.Tree Operated model.Item
      argument_of arm_of body_of class_of element_of form_of member_of statement_of suffix_of part_of arguments_of tree_of operation_of parameter_of l)
  unfolding argument_of arm_of body_of class_of element_of form_of member_of statement_of suffix_of part_of arguments_of tree_of operation_of parameter_of
  open_suffix = fold-roll-Suffix model.Item model.Item model.Body model.ClassReference model.Item model.Form model.MemberName model.Statement model.Step model.Step model.Items model.Tree Operated model.Item
      argument_step arm_step body_step class_step element_step form_step member_step statement_step suffix_step part_step arguments_step expr_step operation_step parameter_step

  open_part : (l : Whole TextPart-F) → part_of (roll-TextPart l) ≡ part_step (map-TextPart Argument Arm Body ClassReference Element Form MemberName Stmt Suffix TextPart Arguments Expr Operation Parameter model.Item model.Item model.Body model.ClassReference model.Item model.Form model.MemberName model.Statement model.Step model.Step model.Items model.Tree Operated model.Item
      argument_of arm_of body_of class_of element_of form_of member_of statement_of suffix_of part_of arguments_of tree_of operation_of parameter_of l)
  unfolding argument_of arm_of body_of class_of element_of form_of member_of statement_of suffix_of part_of arguments_of tree_of operation_of parameter_of
  open_part = fold-roll-TextPart model.Item model.Item model.Body model.ClassReference model.Item model.Form model.MemberName model.Statement model.Step model.Step model.Items model.Tree Operated model.Item
      argument_step arm_step body_step class_step element_step form_step member_step statement_step suffix_step part_step arguments_step expr_step operation_step parameter_step

pub argument-Positional : (e : Expr) → argument_of (arguments.Positional e) ≡ model.Positional (tree_of e)
argument-Positional e = ap argument_of (sym (arguments.rolls-Positional e)) ∙ open_argument (Argument-F.Positional e)

pub argument-Spread : (e : Expr) → argument_of (arguments.Spread e) ≡ model.Spread (tree_of e)
argument-Spread e = ap argument_of (sym (arguments.rolls-Spread e)) ∙ open_argument (Argument-F.«Argument::Spread» e)

pub argument-Named : (t : Token) (e : Expr) → argument_of (arguments.Named t e) ≡ model.Named t (tree_of e)
argument-Named t e = ap argument_of (sym (arguments.rolls-Named t e)) ∙ open_argument (Argument-F.«Argument::Named» t e)

pub arm-Conditions : (es : List Expr) (comma : Bool) (e : Expr) → arm_of (arm.Conditions es comma e) ≡ model.Arm (listed (map model.Positional (map tree_of es)) comma) (tree_of e)
arm-Conditions es comma e = ap arm_of (sym (arm.rolls-Conditions es comma e)) ∙ open_arm (Arm-F.Conditions es comma e)

pub arm-Default : (comma : Bool) (e : Expr) → arm_of (arm.Default comma e) ≡ model.DefaultArm comma (tree_of e)
arm-Default comma e = ap arm_of (sym (arm.rolls-Default comma e)) ∙ open_arm (Arm-F.Default comma e)

pub body-Held : (from to : ℕ) → body_of (bodies.Held from to) ≡ model.Held from to
body-Held from to = ap body_of (sym (bodies.rolls-Held from to)) ∙ open_body (Body-F.Held from to)

pub body-Read : (ss : List Stmt) → body_of (bodies.Read ss) ≡ model.Read (statements_of (map statement_of ss))
body-Read ss = ap body_of (sym (bodies.rolls-Read ss)) ∙ open_body (Body-F.Read ss)

pub class-Named : (t : Token) → class_of (classes.Named t) ≡ model.NamedClass t
class-Named t = ap class_of (sym (classes.rolls-Named t)) ∙ open_class (ClassReference-F.«ClassReference::Named» t)

pub class-Variable : (t : Token) (ss : List Suffix) → class_of (classes.Variable t ss) ≡ model.VariableClass t (steps (map suffix_of ss))
class-Variable t ss = ap class_of (sym (classes.rolls-Variable t ss)) ∙ open_class (ClassReference-F.Variable t ss)

pub class-Scoped : (t u : Token) (ss : List Suffix) → class_of (classes.Scoped t u ss) ≡ model.ScopedClass t u (steps (map suffix_of ss))
class-Scoped t u ss = ap class_of (sym (classes.rolls-Scoped t u ss)) ∙ open_class (ClassReference-F.«ClassReference::Scoped» t u ss)

pub class-Computed : (e : Expr) → class_of (classes.Computed e) ≡ model.ComputedClass (tree_of e)
class-Computed e = ap class_of (sym (classes.rolls-Computed e)) ∙ open_class (ClassReference-F.«ClassReference::Computed» e)

pub element-Spread : (e : Expr) → element_of (elements.Spread e) ≡ model.Spread (tree_of e)
element-Spread e = ap element_of (sym (elements.rolls-Spread e)) ∙ open_element (Element-F.«Element::Spread» e)

pub element-Value : (reference : Bool) (e : Expr) → element_of (elements.Value reference e) ≡ model.Element reference (tree_of e)
element-Value reference e = ap element_of (sym (elements.rolls-Value reference e)) ∙ open_element (Element-F.Value reference e)

pub element-Keyed : (key : Expr) (reference : Bool) (e : Expr) → element_of (elements.Keyed key reference e) ≡ model.KeyedElement (tree_of key) reference (tree_of e)
element-Keyed key reference e = ap element_of (sym (elements.rolls-Keyed key reference e)) ∙ open_element (Element-F.Keyed key reference e)

pub form-Leaf : (leaf : Leaf) → form_of (forms.Leaf leaf) ≡ model.Single leaf
form-Leaf leaf = ap form_of (sym (forms.rolls-Leaf leaf)) ∙ open_form (Form-F.Leaf leaf)

pub form-Brackets : (e : Expr) → form_of (forms.Brackets e) ≡ model.Brackets (tree_of e)
form-Brackets e = ap form_of (sym (forms.rolls-Brackets e)) ∙ open_form (Form-F.Brackets e)

pub form-Array : (style : ArrayStyle) (es : List Element) (comma : Bool) → form_of (forms.Array style es comma) ≡ model.Array style (listed (map element_of es) comma)
form-Array style es comma = ap form_of (sym (forms.rolls-Array style es comma)) ∙ open_form (Form-F.Array style es comma)

pub form-IsSet : (es : List Expr) (comma : Bool) → form_of (forms.IsSet es comma) ≡ model.IsSet (listed (map model.Positional (map tree_of es)) comma)
form-IsSet es comma = ap form_of (sym (forms.rolls-IsSet es comma)) ∙ open_form (Form-F.IsSet es comma)

pub form-Empty : (e : Expr) → form_of (forms.Empty e) ≡ model.Empty (tree_of e)
form-Empty e = ap form_of (sym (forms.rolls-Empty e)) ∙ open_form (Form-F.Empty e)

pub form-Exit : (es : Option Arguments) → form_of (forms.Exit es) ≡ model.Exit (may_be_called (option_map arguments_of es))
form-Exit None = ap form_of (sym (forms.rolls-Exit None)) ∙ open_form (Form-F.Exit None)
form-Exit (Some es) = ap form_of (sym (forms.rolls-Exit (Some es))) ∙ open_form (Form-F.Exit (Some es))

pub form-New : (class : ClassReference) (es : Option Arguments) → form_of (forms.New class es) ≡ model.New (class_of class) (may_be_called (option_map arguments_of es))
form-New class None = ap form_of (sym (forms.rolls-New class None)) ∙ open_form (Form-F.New class None)
form-New class (Some es) = ap form_of (sym (forms.rolls-New class (Some es))) ∙ open_form (Form-F.New class (Some es))

pub form-Match : (e : Expr) (arms : List Arm) (comma : Bool) → form_of (forms.Match e arms comma) ≡ model.Match (tree_of e) (listed (map arm_of arms) comma)
form-Match e arms comma = ap form_of (sym (forms.rolls-Match e arms comma)) ∙ open_form (Form-F.Match e arms comma)

pub form-Closure : (static reference : Bool) (ps : List Parameter) (comma : Bool) (captures : List Token) (captures_comma : Bool) (type : Option TypeTree) (body : Body) → form_of (forms.Closure static reference ps comma captures captures_comma type body) ≡ model.Closure static reference (listed (map parameter_of ps) comma) (listed (map model.Captured captures) captures_comma) (may_type type) (body_of body)
form-Closure static reference ps comma captures captures_comma type body = ap form_of (sym (forms.rolls-Closure static reference ps comma captures captures_comma type body)) ∙ open_form (Form-F.Closure static reference ps comma captures captures_comma type body)

pub form-Arrow : (static reference : Bool) (ps : List Parameter) (comma : Bool) (type : Option TypeTree) (e : Expr) → form_of (forms.Arrow static reference ps comma type e) ≡ model.Arrow static reference (listed (map parameter_of ps) comma) (may_type type) (tree_of e)
form-Arrow static reference ps comma type e = ap form_of (sym (forms.rolls-Arrow static reference ps comma type e)) ∙ open_form (Form-F.Arrow static reference ps comma type e)

pub form-Text : (ps : List TextPart) → form_of (forms.Text ps) ≡ model.Text (steps (map part_of ps))
form-Text ps = ap form_of (sym (forms.rolls-Text ps)) ∙ open_form (Form-F.Text ps)

pub form-Post : (e : Expr) (ss : List Suffix) → form_of (forms.Post e ss) ≡ model.Post (tree_of e) (steps (map suffix_of ss))
form-Post e ss = ap form_of (sym (forms.rolls-Post e ss)) ∙ open_form (Form-F.Post e ss)

pub form-Prefix : (o : PrefixOperator) (e : Expr) → form_of (forms.Prefix o e) ≡ model.Prefix o (tree_of e)
form-Prefix o e = ap form_of (sym (forms.rolls-Prefix o e)) ∙ open_form (Form-F.Prefix o e)

pub form-Assignment : (target : Expr) (o : AssignmentOperator) (e : Expr) → form_of (forms.Assignment target o e) ≡ model.Assignment (tree_of target) o (tree_of e)
form-Assignment target o e = ap form_of (sym (forms.rolls-Assignment target o e)) ∙ open_form (Form-F.Assignment target o e)

pub form-Chain : (e : Expr) (os : List Operation) → form_of (forms.Chain e os) ≡ model.Chain (chain_stratum (map operation_of os)) (tree_of e) (operation_steps (map operation_of os))
form-Chain e os = ap form_of (sym (forms.rolls-Chain e os)) ∙ open_form (Form-F.Chain e os)

pub form-Binary : (d : Expr) (t : Token) (o : BinaryOperator) (e : Expr) → form_of (forms.Binary d t o e) ≡ model.Binary (tree_of d) t o (tree_of e)
form-Binary d t o e = ap form_of (sym (forms.rolls-Binary d t o e)) ∙ open_form (Form-F.Binary d t o e)

pub form-Conditional : (c d e : Expr) → form_of (forms.Conditional c d e) ≡ model.Conditional (tree_of c) (tree_of d) (tree_of e)
form-Conditional c d e = ap form_of (sym (forms.rolls-Conditional c d e)) ∙ open_form (Form-F.Conditional c d e)

pub member-Named : (t : Token) → member_of (members.Named t) ≡ model.NamedMember t
member-Named t = ap member_of (sym (members.rolls-Named t)) ∙ open_member (MemberName-F.«MemberName::Named» t)

pub member-Computed : (e : Expr) → member_of (members.Computed e) ≡ model.ComputedMember (tree_of e)
member-Computed e = ap member_of (sym (members.rolls-Computed e)) ∙ open_member (MemberName-F.«MemberName::Computed» e)

pub statement-Expression : (e : Expr) → statement_of (statements.Expression e) ≡ model.Expression (tree_of e)
statement-Expression e = ap statement_of (sym (statements.rolls-Expression e)) ∙ open_statement (Stmt-F.«Stmt::Expression» e)

pub suffix-Push : suffix_of suffixes.Push ≡ model.Push
suffix-Push = ap suffix_of (sym suffixes.rolls-Push) ∙ open_suffix Suffix-F.Push

pub suffix-Index : (e : Expr) → suffix_of (suffixes.Index e) ≡ model.Index (tree_of e)
suffix-Index e = ap suffix_of (sym (suffixes.rolls-Index e)) ∙ open_suffix (Suffix-F.Index e)

pub suffix-Property : (nullsafe : Bool) (name : MemberName) (es : Option Arguments) → suffix_of (suffixes.Property nullsafe name es) ≡ model.Property nullsafe (member_of name) (may_be_called (option_map arguments_of es))
suffix-Property nullsafe name None = ap suffix_of (sym (suffixes.rolls-Property nullsafe name None)) ∙ open_suffix (Suffix-F.Property nullsafe name None)
suffix-Property nullsafe name (Some es) = ap suffix_of (sym (suffixes.rolls-Property nullsafe name (Some es))) ∙ open_suffix (Suffix-F.Property nullsafe name (Some es))

pub suffix-Scoped : (t : Token) (es : Option Arguments) → suffix_of (suffixes.Scoped t es) ≡ model.Scoped t (may_be_called (option_map arguments_of es))
suffix-Scoped t None = ap suffix_of (sym (suffixes.rolls-Scoped t None)) ∙ open_suffix (Suffix-F.«Suffix::Scoped» t None)
suffix-Scoped t (Some es) = ap suffix_of (sym (suffixes.rolls-Scoped t (Some es))) ∙ open_suffix (Suffix-F.«Suffix::Scoped» t (Some es))

pub suffix-Call : (es : Arguments) → suffix_of (suffixes.Call es) ≡ model.Call (arguments_of es)
suffix-Call es = ap suffix_of (sym (suffixes.rolls-Call es)) ∙ open_suffix (Suffix-F.Call es)

pub suffix-Increment : suffix_of suffixes.Increment ≡ model.Increment
suffix-Increment = ap suffix_of (sym suffixes.rolls-Increment) ∙ open_suffix Suffix-F.Increment

pub suffix-Decrement : suffix_of suffixes.Decrement ≡ model.Decrement
suffix-Decrement = ap suffix_of (sym suffixes.rolls-Decrement) ∙ open_suffix Suffix-F.Decrement

pub part-Token : (t : Token) → part_of (parts.Token t) ≡ model.Part t
part-Token t = ap part_of (sym (parts.rolls-Token t)) ∙ open_part (TextPart-F.Token t)

pub part-Expression : (e : Expr) → part_of (parts.Expression e) ≡ model.Inserted (tree_of e)
part-Expression e = ap part_of (sym (parts.rolls-Expression e)) ∙ open_part (TextPart-F.«TextPart::Expression» e)

pub arguments-made : (es : List Argument) (comma : Bool) → arguments_of (roll-Arguments (record { list = es; comma = comma })) ≡ listed (map argument_of es) comma
unfolding argument_of arm_of body_of class_of element_of form_of member_of statement_of suffix_of part_of arguments_of tree_of operation_of parameter_of
arguments-made es comma = fold-roll-Arguments model.Item model.Item model.Body model.ClassReference model.Item model.Form model.MemberName model.Statement model.Step model.Step model.Items model.Tree Operated model.Item
    argument_step arm_step body_step class_step element_step form_step member_step statement_step suffix_step part_step arguments_step expr_step operation_step parameter_step (record { list = es; comma = comma })

pub tree-made : (t : Token) (form : Form) → tree_of (roll-Expr (record { first = t; form = form })) ≡ model.node t (form_of form)
unfolding argument_of arm_of body_of class_of element_of form_of member_of statement_of suffix_of part_of arguments_of tree_of operation_of parameter_of
tree-made t form = fold-roll-Expr model.Item model.Item model.Body model.ClassReference model.Item model.Form model.MemberName model.Statement model.Step model.Step model.Items model.Tree Operated model.Item
    argument_step arm_step body_step class_step element_step form_step member_step statement_step suffix_step part_step arguments_step expr_step operation_step parameter_step (record { first = t; form = form })

pub operation-made : (t : Token) (o : BinaryOperator) (e : Expr) → operation_of (roll-Operation (record { token = t; operator = o; operand = e })) ≡ record { token = t; operator = o; operand = tree_of e }
unfolding argument_of arm_of body_of class_of element_of form_of member_of statement_of suffix_of part_of arguments_of tree_of operation_of parameter_of
operation-made t o e = fold-roll-Operation model.Item model.Item model.Body model.ClassReference model.Item model.Form model.MemberName model.Statement model.Step model.Step model.Items model.Tree Operated model.Item
    argument_step arm_step body_step class_step element_step form_step member_step statement_step suffix_step part_step arguments_step expr_step operation_step parameter_step (record { token = t; operator = o; operand = e })

pub parameter-made : (v : Option Visibility) (type : Option TypeTree) (reference : Bool) (variadic : Bool) (t : Token) (value : Option Expr) → parameter_of (roll-Parameter (record { visibility = v; declared = type; by_reference = reference; is_variadic = variadic; variable = t; default = value })) ≡ model.Parameter v (may_type type) reference variadic t (default_of (option_map tree_of value))
unfolding argument_of arm_of body_of class_of element_of form_of member_of statement_of suffix_of part_of arguments_of tree_of operation_of parameter_of
parameter-made v type reference variadic t None = fold-roll-Parameter model.Item model.Item model.Body model.ClassReference model.Item model.Form model.MemberName model.Statement model.Step model.Step model.Items model.Tree Operated model.Item
    argument_step arm_step body_step class_step element_step form_step member_step statement_step suffix_step part_step arguments_step expr_step operation_step parameter_step (record { visibility = v; declared = type; by_reference = reference; is_variadic = variadic; variable = t; default = None })
parameter-made v type reference variadic t (Some value) = fold-roll-Parameter model.Item model.Item model.Body model.ClassReference model.Item model.Form model.MemberName model.Statement model.Step model.Step model.Items model.Tree Operated model.Item
    argument_step arm_step body_step class_step element_step form_step member_step statement_step suffix_step part_step arguments_step expr_step operation_step parameter_step (record { visibility = v; declared = type; by_reference = reference; is_variadic = variadic; variable = t; default = (Some value) })

pub ruleset layers = (argument-Positional, argument-Spread, argument-Named, arm-Conditions, arm-Default, body-Held, body-Read, class-Named, class-Variable, class-Scoped, class-Computed, element-Spread, element-Value, element-Keyed, form-Leaf, form-Brackets, form-Array, form-IsSet, form-Empty, form-Exit, form-New, form-Match, form-Closure, form-Arrow, form-Text, form-Post, form-Prefix, form-Assignment, form-Chain, form-Binary, form-Conditional, member-Named, member-Computed, statement-Expression, suffix-Push, suffix-Index, suffix-Property, suffix-Scoped, suffix-Call, suffix-Increment, suffix-Decrement, part-Token, part-Expression, arguments-made, tree-made, operation-made, parameter-made)

-- ---- a struct by its fields

pub arguments_fields : (es : Arguments) → arguments_of es ≡ listed (map argument_of es.list) es.comma
unfolding argument_of arm_of body_of class_of element_of form_of member_of statement_of suffix_of part_of arguments_of tree_of operation_of parameter_of
arguments_fields es = fold_out-Arguments model.Item model.Item model.Body model.ClassReference model.Item model.Form model.MemberName model.Statement model.Step model.Step model.Items model.Tree Operated model.Item
    argument_step arm_step body_step class_step element_step form_step member_step statement_step suffix_step part_step arguments_step expr_step operation_step parameter_step es

pub tree_fields : (e : Expr) → tree_of e ≡ model.node e.first (form_of e.form)
unfolding argument_of arm_of body_of class_of element_of form_of member_of statement_of suffix_of part_of arguments_of tree_of operation_of parameter_of
tree_fields e = fold_out-Expr model.Item model.Item model.Body model.ClassReference model.Item model.Form model.MemberName model.Statement model.Step model.Step model.Items model.Tree Operated model.Item
    argument_step arm_step body_step class_step element_step form_step member_step statement_step suffix_step part_step arguments_step expr_step operation_step parameter_step e

pub operation_fields : (o : Operation) → operation_of o ≡ record { token = o.token; operator = o.operator; operand = tree_of o.operand }
unfolding argument_of arm_of body_of class_of element_of form_of member_of statement_of suffix_of part_of arguments_of tree_of operation_of parameter_of
operation_fields o = fold_out-Operation model.Item model.Item model.Body model.ClassReference model.Item model.Form model.MemberName model.Statement model.Step model.Step model.Items model.Tree Operated model.Item
    argument_step arm_step body_step class_step element_step form_step member_step statement_step suffix_step part_step arguments_step expr_step operation_step parameter_step o

pub parameter_fields : (p : Parameter) → parameter_of p ≡ model.Parameter (out-Parameter p).visibility (may_type (out-Parameter p).declared) (out-Parameter p).by_reference
    (out-Parameter p).is_variadic (out-Parameter p).variable (default_of (option_map tree_of (out-Parameter p).default))
parameter_fields p = ap parameter_of (sym (roll-out-Parameter p))
    ∙ parameter-made (out-Parameter p).visibility (out-Parameter p).declared (out-Parameter p).by_reference (out-Parameter p).is_variadic (out-Parameter p).variable (out-Parameter p).default
