-- What lists put, item by item.
use Rattle.std.proofs.Common.{◌≡◌, List, [], ◌∷◌, Bool, true, false, Option, Some, None, refl, ap, sym, ◌∙◌}
use Rattle.std.specs.Prelude.{map, option_map}
use Rattle.stan_model_grammar.specs.declared.token.Token.{Token}
use Rattle.stan_model_statements.specs.Rules.{Rule}
use Rattle.stan_model_statements.specs.Rules as r
use Rattle.stan_model_statements.specs.TreeLists as lists
use Rattle.stan_model_statements.specs.Trees.{MayValue, no_value, some_value, Statement, node, Block, Empty, Expression, Echo, Return, If, While, Do, For, ForEach, Switch, Break, Continue, Try, Unset, Global, Static, Const, Declare, Function, Class, Interface, Trait}
use Rattle.stan_model_files.specs.Put.{put, put_all, put_form, put_value, put_target, further_values, further_variables, further_constants, may_values, list_end}
use Rattle.stan_model_files.specs.Shapes.{Shape, nil, mark, some}
use Rattle.stan_stmt_trees.proofs.Layers.{statement-made}
use Rattle.stan_stmt_trees.specs.Tree.{value_of, statement_of, form_of, variable_of, constant_of}
use Rattle.stan_stmt_trees.specs.declared.statement.Constant.{Constant}
use Rattle.stan_stmt_trees.specs.declared.statement.Form.{Form}
use Rattle.stan_stmt_trees.specs.declared.statement.Stmt.{Stmt, roll-Stmt}
use Rattle.stan_stmt_trees.specs.declared.statement.Value.{Value}
use Rattle.stan_stmt_trees.specs.declared.statement.Variable.{Variable}
use Rattle.stan_stmt_parts.specs.Parse.{Piece, piece_of, standing, optional, items}
use Rattle.stan_stmt_parts.specs.Gives.{statement_piece}
use Rattle.stan_stmt_items.specs.Views.{value_behind, part_behind, declared_of, constant_piece}
use Rattle.stan_stmt_lists.specs.Views.{all_values, expressions_of, values_of}

pub put_stands : (s : Statement) (f : Shape) → put s f ≡ standing (piece_of (put s nil)) f
put_stands (node t (Block ss)) f = refl
put_stands (node t (Empty end)) f = refl
put_stands (node t (Expression v end)) f = refl
put_stands (node t (Echo vs end)) f = refl
put_stands (node t (Return v end)) f = refl
put_stands (node t (If v s es o)) f = refl
put_stands (node t (While v s)) f = refl
put_stands (node t (Do s v end)) f = refl
put_stands (node t (For vs us ws s)) f = refl
put_stands (node t (ForEach v key reference element s)) f = refl
put_stands (node t (Switch v cs)) f = refl
put_stands (node t (Break levels end)) f = refl
put_stands (node t (Continue levels end)) f = refl
put_stands (node t (Try ss cs b)) f = refl
put_stands (node t (Unset vs comma end)) f = refl
put_stands (node t (Global ts end)) f = refl
put_stands (node t (Static vs end)) f = refl
put_stands (node t (Const cs end)) f = refl
put_stands (node t (Declare name number end)) f = refl
put_stands (node t (Function reference name ps comma type ss)) f = refl
put_stands (node t (Class modifiers name parent interfaces ms)) f = refl
put_stands (node t (Interface name parents ms)) f = refl
put_stands (node t (Trait name ms)) f = refl

-- one statement, and many
pub statement_is : (s : Stmt) (f : Shape) → put (statement_of s) f ≡ standing (statement_piece s) f
unfolding statement_piece
statement_is s f = put_stands (statement_of s) f

pub statements_are : (ss : List Stmt) (f : Shape) → put_all (lists.statements (map statement_of ss)) f ≡ items (map statement_piece ss) f
statements_are [] f = refl
statements_are (s ∷ ss) f = statement_is s (put_all (lists.statements (map statement_of ss)) f) ∙ ap (standing (statement_piece s)) (statements_are ss f)

pub further_are : (r : Rule) (vs : List Value) (f : Shape) → further_values r (lists.values (map value_of vs)) f ≡ items (map (value_behind r) vs) f
further_are r [] f = refl
further_are r (v ∷ vs) f = ap (some r None (mark (put_value (value_of v) nil))) (further_are r vs f)

-- values that may stand
pub may_be : (o : Option (Value × List Value)) (f : Shape) → may_values (values_of (all_values o)) f ≡ optional (option_map expressions_of o) f
may_be None f = refl
may_be (Some vs) f = refl

pub ends : (comma : Bool) (f : Shape) → list_end r.closing r.comma_closing comma f ≡ standing (piece_of (list_end r.closing r.comma_closing comma nil)) f
ends true f = refl
ends false f = refl

pub target_stands : (key : MayValue) (reference : Bool) (element f : Shape) → put_target key reference element f ≡ standing (piece_of (put_target key reference element nil)) f
target_stands no_value true element f = refl
target_stands no_value false element f = refl
target_stands (some_value key) reference element f = refl

-- a statement by its form
pub form_is : (t : Token) (form : Form) → statement_piece (roll-Stmt (record { first = t; form = form })) ≡ piece_of (put_form t (form_of form) nil)
unfolding statement_piece
form_is t form = rw (statement-made t form) refl

pub variables_are : (vs : List Variable) (f : Shape) → further_variables (lists.variables (map variable_of vs)) f ≡ items (map (λ v. part_behind r.further_declared (declared_of v)) vs) f
unfolding declared_of
variables_are [] f = refl
variables_are (v ∷ vs) f = ap (standing (part_behind r.further_declared (declared_of v))) (variables_are vs f)

pub constants_are : (r q : Rule) (cs : List Constant) (f : Shape) → further_constants r q (lists.constants (map constant_of cs)) f ≡ items (map (λ c. part_behind q (constant_piece r c)) cs) f
unfolding constant_piece
constants_are r q [] f = refl
constants_are r q (c ∷ cs) f = ap (standing (part_behind q (constant_piece r c))) (constants_are r q cs f)
