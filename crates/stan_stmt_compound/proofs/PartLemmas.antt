-- What the parts of statements put, item by item.
use Rattle.std.proofs.Common.{◌≡◌, List, [], ◌∷◌, Option, Some, None, refl, ap, sym, ◌∙◌}
use Rattle.std.specs.Prelude.{map, option_map}
use Rattle.stan_model_grammar.specs.declared.token.Token.{Token}
use Rattle.stan_model_statements.specs.Rules as r
use Rattle.stan_model_statements.specs.TreeLists as lists
use Rattle.stan_model_statements.specs.Trees.{Statements, MayValue, no_value, some_value, Cases, case}
use Rattle.stan_model_files.specs.Put.{put, put_value, put_else, put_else_ifs, put_cases, put_catches, put_finally, put_handlers}
use Rattle.stan_model_files.specs.Shapes.{Shape, nil, mark, word}
use Rattle.stan_stmt_trees.proofs.Layers.{else_if-made, case-made, catch-made}
use Rattle.stan_stmt_trees.specs.Tree.{value_of, statement_of, else_if_of, case_of, catch_of}
use Rattle.stan_stmt_trees.specs.declared.statement.Case.{Case, roll-Case}
use Rattle.stan_stmt_trees.specs.declared.statement.Catch.{Catch, roll-Catch}
use Rattle.stan_stmt_trees.specs.declared.statement.ElseIf.{ElseIf, roll-ElseIf}
use Rattle.stan_stmt_trees.specs.declared.statement.Stmt.{Stmt}
use Rattle.stan_stmt_trees.specs.declared.statement.Value.{Value}
use Rattle.stan_stmt_parts.specs.Gives.{statement_piece}
use Rattle.stan_stmt_parts.specs.Parse.{Piece, piece_of, standing, optional, items}
use Rattle.stan_stmt_lists.proofs.ListLemmas.{statement_is, statements_are}
use Rattle.stan_stmt_lists.specs.Views.{block_of, catch_head_of, in_brackets}
use Rattle.stan_stmt_compound.specs.Views.{else_if_piece, else_piece, case_by, case_piece, catch_piece, finally_piece, handlers_of}

-- ---- `elseif` and `else`

pub else_if_is : (t : Token) (v : Value) (s : Stmt)
    → else_if_piece (roll-ElseIf (record { first = t; condition = v; then = s })) ≡ (r.else_if_part, Some t, mark (standing (in_brackets v) (standing (statement_piece s) nil)))
unfolding else_if_piece
else_if_is t v s = rw (else_if-made t v s) (rw (statement_is s nil) refl)

pub else_ifs_are : (es : List ElseIf) (f : Shape) → put_else_ifs (lists.else_ifs (map else_if_of es)) f ≡ items (map else_if_piece es) f
unfolding else_if_piece
else_ifs_are [] f = refl
else_ifs_are (e ∷ es) f = ap (standing (else_if_piece e)) (else_ifs_are es f)

pub else_is : (o : Option Stmt) (f : Shape) → put_else (lists.may_else (option_map statement_of o)) f ≡ optional (option_map else_piece o) f
else_is None f = refl
else_is (Some s) f = rw (statement_is s nil) refl

-- ---- `case` and `default`

pub case_is : (t : Token) (v : Value) (end : Token) (ss : List Stmt)
    → case_piece (roll-Case (record { first = t; value = Some v; mark = end; statements = ss })) ≡ (r.case_part, Some t, mark (put_value (value_of v) (word end (items (map statement_piece ss) nil))))
unfolding case_piece
case_is t v end ss = rw (case-made t (Some v) end ss) (rw (statements_are ss nil) refl)

pub default_is : (t end : Token) (ss : List Stmt)
    → case_piece (roll-Case (record { first = t; value = None; mark = end; statements = ss })) ≡ (r.default_part, Some t, mark (word end (items (map statement_piece ss) nil)))
unfolding case_piece
default_is t end ss = rw (case-made t None end ss) (rw (statements_are ss nil) refl)

one_case : (t : Token) (v : MayValue) (end : Token) (ss : Statements) (cs : Cases) (f : Shape) → put_cases (case t v end ss cs) f ≡ standing (case_by t v end ss) (put_cases cs f)
one_case t no_value end ss cs f = refl
one_case t (some_value v) end ss cs f = refl

pub cases_are : (cs : List Case) (f : Shape) → put_cases (lists.cases (map case_of cs)) f ≡ items (map case_piece cs) f
unfolding case_piece
cases_are [] f = refl
cases_are (c ∷ cs) f =
    one_case (case_of c).first (case_of c).value (case_of c).mark (case_of c).statements (lists.cases (map case_of cs)) f
    ∙ ap (standing (case_by (case_of c).first (case_of c).value (case_of c).mark (case_of c).statements)) (cases_are cs f)

-- ---- `catch` and `finally`

pub catch_is : (t : Token) (classes : List Token) (variable : Option Token) (ss : List Stmt)
    → catch_piece (roll-Catch (record { first = t; classes = classes; variable = variable; statements = ss })) ≡ (r.catch_part, Some t, mark (standing (catch_head_of classes variable) (standing (block_of ss) nil)))
unfolding catch_piece
catch_is t classes variable ss = rw (catch-made t classes variable ss) refl

catches_are : (cs : List Catch) (f : Shape) → put_catches (lists.catches (map catch_of cs)) f ≡ items (map catch_piece cs) f
unfolding catch_piece
catches_are [] f = refl
catches_are (c ∷ cs) f = ap (standing (catch_piece c)) (catches_are cs f)

finally_is : (o : Option (List Stmt)) (f : Shape) → put_finally (lists.may_block (option_map (map statement_of) o)) f ≡ optional (option_map finally_piece o) f
finally_is None f = refl
finally_is (Some ss) f = refl

pub with_catches : (c : Catch) (cs : List Catch) (finally : Option (List Stmt))
    → handlers_of (c ∷ cs) finally ≡ (r.catches, None, standing (catch_piece c) (items (map catch_piece cs) (optional (option_map finally_piece finally) nil)))
unfolding handlers_of catch_piece
with_catches c cs finally = rw (finally_is finally nil) (rw (catches_are cs (optional (option_map finally_piece finally) nil)) refl)

pub without_catches : (ss : List Stmt) → handlers_of [] (Some ss) ≡ (r.only_finally, None, standing (finally_piece ss) nil)
unfolding handlers_of
without_catches ss = refl

pub handlers_stand : (cs : List Catch) (finally : Option (List Stmt)) (f : Shape)
    → put_handlers (lists.catches (map catch_of cs)) (put_finally (lists.may_block (option_map (map statement_of) finally)) nil) f ≡ standing (handlers_of cs finally) f
unfolding handlers_of
handlers_stand [] finally f = refl
handlers_stand (c ∷ cs) finally f = refl
