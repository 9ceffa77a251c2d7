-- The productions that stand for the parts of statements that hold others.
use Rattle.std.specs.Prelude.{List, Option, Some, None, map, option_map}
use Rattle.stan_model_grammar.specs.declared.token.Token.{Token}
use Rattle.stan_model_statements.specs.Rules as r
use Rattle.stan_model_statements.specs.TreeLists as lists
use Rattle.stan_model_statements.specs.Trees.{Statements, MayValue, no_value, some_value}
use Rattle.stan_model_files.specs.Put as puts
use Rattle.stan_model_files.specs.Put.{put, put_all, put_value, put_cases, put_handlers, put_finally, first_words, may_word}
use Rattle.stan_model_files.specs.Shapes.{nil, mark, word, some}
use Rattle.stan_stmt_trees.specs.Tree.{statement_of, else_if_of, case_of, catch_of}
use Rattle.stan_stmt_trees.specs.declared.statement.Case.{Case}
use Rattle.stan_stmt_trees.specs.declared.statement.Catch.{Catch}
use Rattle.stan_stmt_trees.specs.declared.statement.ElseIf.{ElseIf}
use Rattle.stan_stmt_trees.specs.declared.statement.Stmt.{Stmt}
use Rattle.stan_stmt_lists.specs.Views.{block_of}
use Rattle.stan_stmt_parts.specs.Gives.{statement_piece}
use Rattle.stan_stmt_parts.specs.Parse.{Piece, piece_of, standing}

unfoldable pub else_if_piece : ElseIf → Piece
else_if_piece x = (r.else_if_part, Some (else_if_of x).first, mark (puts.in_brackets (put_value (else_if_of x).condition (mark nil)) (put (else_if_of x).then nil)))

abbrev pub else_piece : Stmt → Piece
else_piece s = (r.else_part, None, mark (standing (statement_piece s) nil))

-- without a value it is a `default`
abbrev pub case_by : Token → MayValue → Token → Statements → Piece
case_by t no_value end ss = (r.default_part, Some t, mark (word end (put_all ss nil)))
case_by t (some_value v) end ss = (r.case_part, Some t, mark (put_value v (word end (put_all ss nil))))

unfoldable pub case_piece : Case → Piece
case_piece x = case_by (case_of x).first (case_of x).value (case_of x).mark (case_of x).statements

abbrev pub cases_of : List Case → Piece
cases_of cs = (r.cases, None, mark (put_cases (lists.cases (map case_of cs)) (mark nil)))

unfoldable pub catch_piece : Catch → Piece
catch_piece x = (
  r.catch_part,
  Some (catch_of x).first,
  mark (some r.catch_head None (mark (first_words r.further_class (catch_of x).classes (may_word r.catch_variable (catch_of x).variable (mark nil))))
      (puts.in_braces (put_all (catch_of x).statements (mark nil)) nil)),
)

abbrev pub finally_piece : List Stmt → Piece
finally_piece ss = (r.finally_part, None, mark (standing (block_of ss) nil))

-- what stands behind the block of a `try`
unfoldable pub handlers_of : List Catch → Option (List Stmt) → Piece
handlers_of cs finally = piece_of (put_handlers (lists.catches (map catch_of cs)) (put_finally (lists.may_block (option_map (map statement_of) finally)) nil) nil)
