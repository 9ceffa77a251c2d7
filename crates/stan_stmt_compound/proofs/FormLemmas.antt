-- The productions of each statement that holds others.
use Rattle.std.proofs.Common.{◌≡◌, Bool, List, Option, Some, None, refl, ◌∙◌}
use Rattle.std.specs.Prelude.{map, option_map}
use Rattle.stan_model_grammar.specs.declared.token.Token.{Token}
use Rattle.stan_model_statements.specs.Rules as r
use Rattle.stan_model_statements.specs.TreeLists as lists
use Rattle.stan_model_files.specs.Put.{put_target, put_value}
use Rattle.stan_model_files.specs.Shapes.{nil, mark, word}
use Rattle.stan_stmt_trees.proofs.Layers.{form-If, form-While, form-Do, form-For, form-ForEach, form-Switch, form-Try}
use Rattle.stan_stmt_trees.specs.Tree.{value_of}
use Rattle.stan_stmt_trees.specs.declared.statement.Case.{Case}
use Rattle.stan_stmt_trees.specs.declared.statement.Catch.{Catch}
use Rattle.stan_stmt_trees.specs.declared.statement.ElseIf.{ElseIf}
use Rattle.stan_stmt_trees.specs.declared.statement.Form.TheVariants as forms
use Rattle.stan_stmt_trees.specs.declared.statement.Stmt.{Stmt, roll-Stmt}
use Rattle.stan_stmt_trees.specs.declared.statement.Value.{Value}
use Rattle.stan_stmt_parts.specs.Gives.{statement_piece}
use Rattle.stan_stmt_parts.specs.Parse.{Piece, standing, optional, items}
use Rattle.stan_stmt_lists.proofs.ListLemmas.{form_is, statement_is}
use Rattle.stan_stmt_lists.specs.Views.{block_of, in_brackets, for_head_of, for_each_head_of}
use Rattle.stan_stmt_compound.specs.Views.{else_if_piece, else_piece, cases_of, handlers_of}
use Rattle.stan_stmt_compound.proofs.PartLemmas.{else_ifs_are, else_is, handlers_stand}

pub if_is : (t : Token) (v : Value) (s : Stmt) (es : List ElseIf) (o : Option Stmt) → statement_piece (roll-Stmt (record { first = t; form = forms.If v s es o }))
    ≡ (r.if_statement, Some t, mark (standing (in_brackets v) (standing (statement_piece s) (items (map else_if_piece es) (optional (option_map else_piece o) nil)))))
if_is t v s es o =
    form_is t (forms.If v s es o)
    ∙ rw (form-If v s es o) (rw (else_is o nil) (rw (else_ifs_are es (optional (option_map else_piece o) nil)) (rw (statement_is s (items (map else_if_piece es) (optional (option_map else_piece o) nil))) refl)))

pub while_is : (t : Token) (v : Value) (s : Stmt) → statement_piece (roll-Stmt (record { first = t; form = forms.While v s })) ≡ (r.while_statement, Some t, mark (standing (in_brackets v) (standing (statement_piece s) nil)))
while_is t v s = form_is t (forms.While v s) ∙ rw (form-While v s) (rw (statement_is s nil) refl)

pub do_is : (t : Token) (s : Stmt) (v : Value) (end : Token) → statement_piece (roll-Stmt (record { first = t; form = forms.Do s v end }))
    ≡ (r.do_statement, Some t, mark (standing (statement_piece s) (mark (standing (in_brackets v) (word end nil)))))
do_is t s v end = form_is t (forms.Do s v end) ∙ rw (form-Do s v end) (rw (statement_is s (mark (standing (in_brackets v) (word end nil)))) refl)

pub for_is : (t : Token) (vs us ws : List Value) (s : Stmt) → statement_piece (roll-Stmt (record { first = t; form = forms.For vs us ws s }))
    ≡ (r.for_statement, Some t, mark (standing (for_head_of vs us ws) (standing (statement_piece s) nil)))
for_is t vs us ws s = form_is t (forms.For vs us ws s) ∙ rw (form-For vs us ws s) (rw (statement_is s nil) refl)

pub for_each_is : (t : Token) (v : Value) (key : Option Value) (reference : Bool) (element : Value) (s : Stmt) → statement_piece (roll-Stmt (record { first = t; form = forms.ForEach v key reference element s }))
    ≡ (r.for_each_statement, Some t, mark (standing (for_each_head_of v key reference element) (standing (statement_piece s) nil)))
for_each_is t v key reference element s = form_is t (forms.ForEach v key reference element s) ∙ rw (form-ForEach v key reference element s) (rw (statement_is s nil) refl)

pub switch_is : (t : Token) (v : Value) (cs : List Case) → statement_piece (roll-Stmt (record { first = t; form = forms.Switch v cs }))
    ≡ (r.switch_statement, Some t, mark (standing (in_brackets v) (standing (cases_of cs) nil)))
switch_is t v cs = form_is t (forms.Switch v cs) ∙ rw (form-Switch v cs) refl

pub try_is : (t : Token) (ss : List Stmt) (cs : List Catch) (finally : Option (List Stmt)) → statement_piece (roll-Stmt (record { first = t; form = forms.Try ss cs finally }))
    ≡ (r.try_statement, Some t, mark (standing (block_of ss) (standing (handlers_of cs finally) nil)))
try_is t ss cs finally = form_is t (forms.Try ss cs finally) ∙ rw (form-Try ss cs finally) (rw (handlers_stand cs finally nil) refl)
