-- The productions of each statement in which no other stands but in a block.
use Rattle.std.proofs.Common.{◌≡◌, Bool, List, ◌∷◌, Option, Some, None, refl, ◌∙◌}
use Rattle.std.specs.Prelude.{map, option_map}
use Rattle.stan_model_grammar.specs.declared.token.Token.{Token}
use Rattle.stan_model_statements.specs.Rules as r
use Rattle.stan_model_statements.specs.TreeLists as lists
use Rattle.stan_model_files.specs.Put.{put_value, may_return_value}
use Rattle.stan_model_files.specs.Shapes.{Shape, nil, mark, word}
use Rattle.stan_stmt_trees.proofs.Layers.{form-Block, form-Empty, form-Expression, form-Echo, form-Return, form-Break, form-Continue, form-Unset, form-Global, form-Static, form-Const, form-Declare}
use Rattle.stan_stmt_trees.specs.Tree.{value_of, variable_of, constant_of}
use Rattle.stan_stmt_trees.specs.declared.statement.Constant.{Constant}
use Rattle.stan_stmt_trees.specs.declared.statement.Form.TheVariants as forms
use Rattle.stan_stmt_trees.specs.declared.statement.Stmt.{Stmt, roll-Stmt}
use Rattle.stan_stmt_trees.specs.declared.statement.Value.{Value}
use Rattle.stan_stmt_trees.specs.declared.statement.Variable.{Variable}
use Rattle.stan_stmt_parts.specs.Gives.{statement_piece}
use Rattle.stan_stmt_parts.specs.Parse.{Piece, standing, optional, items}
use Rattle.stan_stmt_parts.proofs.Options.{worded}
use Rattle.stan_stmt_items.proofs.Layers.{further_are}
use Rattle.stan_stmt_items.specs.Views.{of_word, of_value, behind_mark, part_behind, declared_of, constant_piece}
use Rattle.stan_stmt_lists.proofs.ListLemmas.{form_is, variables_are, constants_are}
use Rattle.stan_stmt_lists.specs.Views.{block_of, expressions_of, unset_list_of, directive_of}

pub block_is : (t : Token) (ss : List Stmt) → statement_piece (roll-Stmt (record { first = t; form = forms.Block ss })) ≡ (r.block_statement, Some t, standing (block_of ss) nil)
block_is t ss = form_is t (forms.Block ss) ∙ rw (form-Block ss) refl

pub empty_is : (t end : Token) → statement_piece (roll-Stmt (record { first = t; form = forms.Empty end })) ≡ (r.empty_statement, Some t, word end nil)
empty_is t end = form_is t (forms.Empty end) ∙ rw (form-Empty end) refl

pub expression_is : (t : Token) (v : Value) (end : Token) → statement_piece (roll-Stmt (record { first = t; form = forms.Expression v end })) ≡ (r.expression_statement, Some t, put_value (value_of v) (word end nil))
expression_is t v end = form_is t (forms.Expression v end) ∙ rw (form-Expression v end) refl

pub echo_is : (t : Token) (v : Value) (vs : List Value) (end : Token) → statement_piece (roll-Stmt (record { first = t; form = forms.Echo (v ∷ vs) end }))
    ≡ (r.echo_statement, Some t, mark (standing (expressions_of (v, vs)) (word end nil)))
echo_is t v vs end = form_is t (forms.Echo (v ∷ vs) end) ∙ rw (form-Echo (v ∷ vs) end) refl

returned : (o : Option Value) (f : Shape) → may_return_value (lists.may_value (option_map value_of o)) f ≡ optional (option_map (of_value r.value_part) o) f
returned None f = refl
returned (Some v) f = refl

pub return_is : (t : Token) (v : Option Value) (end : Token) → statement_piece (roll-Stmt (record { first = t; form = forms.Return v end }))
    ≡ (r.return_statement, Some t, mark (optional (option_map (of_value r.value_part) v) (word end nil)))
return_is t v end = form_is t (forms.Return v end) ∙ rw (form-Return v end) (rw (returned v (word end nil)) refl)

pub break_is : (t : Token) (levels : Option Token) (end : Token) → statement_piece (roll-Stmt (record { first = t; form = forms.Break levels end }))
    ≡ (r.break_statement, Some t, mark (optional (option_map (of_word r.levels) levels) (word end nil)))
break_is t levels end = form_is t (forms.Break levels end) ∙ rw (form-Break levels end) (rw (worded r.levels levels (word end nil)) refl)

pub continue_is : (t : Token) (levels : Option Token) (end : Token) → statement_piece (roll-Stmt (record { first = t; form = forms.Continue levels end }))
    ≡ (r.continue_statement, Some t, mark (optional (option_map (of_word r.levels) levels) (word end nil)))
continue_is t levels end = form_is t (forms.Continue levels end) ∙ rw (form-Continue levels end) (rw (worded r.levels levels (word end nil)) refl)

pub unset_is : (t : Token) (vs : List Value) (comma : Bool) (end : Token) → statement_piece (roll-Stmt (record { first = t; form = forms.Unset vs comma end }))
    ≡ (r.unset_statement, Some t, mark (standing (unset_list_of (vs, comma)) (word end nil)))
unset_is t vs comma end = form_is t (forms.Unset vs comma end) ∙ rw (form-Unset vs comma end) refl

pub global_is : (t name : Token) (names : List Token) (end : Token) → statement_piece (roll-Stmt (record { first = t; form = forms.Global (name ∷ names) end }))
    ≡ (r.global_statement, Some t, mark (word name (items (map (behind_mark r.further_global) names) (word end nil))))
global_is t name names end = form_is t (forms.Global (name ∷ names) end) ∙ rw (form-Global (name ∷ names) end) (rw (further_are r.further_global names (word end nil)) refl)

pub static_is : (t : Token) (v : Variable) (vs : List Variable) (end : Token) → statement_piece (roll-Stmt (record { first = t; form = forms.Static (v ∷ vs) end }))
    ≡ (r.static_statement, Some t, mark (standing (declared_of v) (items (map (λ x. part_behind r.further_declared (declared_of x)) vs) (word end nil))))
unfolding declared_of
static_is t v vs end = form_is t (forms.Static (v ∷ vs) end) ∙ rw (form-Static (v ∷ vs) end) (rw (variables_are vs (word end nil)) refl)

pub const_is : (t : Token) (c : Constant) (cs : List Constant) (end : Token) → statement_piece (roll-Stmt (record { first = t; form = forms.Const (c ∷ cs) end }))
    ≡ (r.const_statement, Some t, mark (standing (constant_piece r.constant c) (items (map (λ x. part_behind r.further_constant (constant_piece r.constant x)) cs) (word end nil))))
unfolding constant_piece
const_is t c cs end = form_is t (forms.Const (c ∷ cs) end) ∙ rw (form-Const (c ∷ cs) end) (rw (constants_are r.constant r.further_constant cs (word end nil)) refl)

pub declare_is : (t name number end : Token) → statement_piece (roll-Stmt (record { first = t; form = forms.Declare name number end }))
    ≡ (r.declare_statement, Some t, mark (standing (directive_of name number) (word end nil)))
declare_is t name number end = form_is t (forms.Declare name number end) ∙ rw (form-Declare name number end) refl
