-- The productions that stand for what is read.
use Rattle.std.specs.Prelude.{List, [], ◌∷◌, Option, Some, None}
use Rattle.stan_model_grammar.specs.declared.token.Token.{Token}
use Rattle.stan_model_statements.specs.Rules as r
use Rattle.stan_model_files.specs.Put.{put_value, put_default, put_names, first_words}
use Rattle.stan_model_files.specs.Shapes.{nil, mark, word}
use Rattle.stan_stmt_trees.specs.Tree.{value_of, variable_of, constant_of}
use Rattle.stan_stmt_trees.specs.declared.statement.Constant.{Constant}
use Rattle.stan_stmt_trees.specs.declared.statement.Value.{Value}
use Rattle.stan_stmt_trees.specs.declared.statement.Variable.{Variable}
use Rattle.stan_stmt_parts.specs.Parse.{Piece, standing}

-- one mark
abbrev pub of_mark : r.Rule → Piece
of_mark r = (r, None, mark nil)

-- one word, or one behind a mark
abbrev pub of_word : r.Rule → Token → Piece
of_word r t = (r, None, word t nil)

abbrev pub behind_mark : r.Rule → Token → Piece
behind_mark r t = (r, None, mark (word t nil))

-- an expression, or one behind a mark
abbrev pub of_value : r.Rule → Value → Piece
of_value r v = (r, None, put_value (value_of v) nil)

abbrev pub value_behind : r.Rule → Value → Piece
value_behind r v = (r, None, mark (put_value (value_of v) nil))

-- a part behind a mark
abbrev pub part_behind : r.Rule → Piece → Piece
part_behind r p = (r, None, mark (standing p nil))

abbrev pub names_of : List Token → Piece
names_of ts = (r.class_names, None, first_words r.further_name ts nil)

-- all of the names, if there are any
abbrev pub all_names : Option (Token × List Token) → List Token
all_names None = []
all_names (Some x) = x.0 ∷ x.1

unfoldable pub declared_of : Variable → Piece
declared_of x = (r.declared, None, word (variable_of x).name (put_default (variable_of x).value nil))

unfoldable pub constant_piece : r.Rule → Constant → Piece
constant_piece r x = (r, None, word (constant_of x).name (mark (put_value (constant_of x).value nil)))
