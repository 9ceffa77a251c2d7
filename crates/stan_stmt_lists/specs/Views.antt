-- The productions that stand for lists, heads and blocks.
use Rattle.std.specs.Prelude.{Bool, List, [], ◌∷◌, Option, Some, None, map, option_map}
use Rattle.stan_model_grammar.specs.declared.token.Token.{Token}
use Rattle.stan_model_statements.specs.Rules as r
use Rattle.stan_model_statements.specs.TreeLists as lists
use Rattle.stan_model_statements.specs.Trees.{Values}
use Rattle.stan_model_files.specs.Put.{put_value, put_all, put_target, further_values, first_values, may_values, list_end, first_words, may_word}
use Rattle.stan_model_files.specs.Shapes.{Shape, nil, mark, word}
use Rattle.stan_stmt_trees.specs.Tree.{value_of, statement_of}
use Rattle.stan_stmt_trees.specs.declared.statement.Stmt.{Stmt}
use Rattle.stan_stmt_trees.specs.declared.statement.Value.{Value}
use Rattle.stan_stmt_parts.specs.Parse.{Piece, piece_of}

abbrev pub values_of : List Value → Values
values_of vs = lists.values (map value_of vs)

-- statements in braces
abbrev pub statements_in : List Stmt → Shape
statements_in ss = put_all (lists.statements (map statement_of ss)) (mark nil)

abbrev pub block_of : List Stmt → Piece
block_of ss = (r.block, None, mark (statements_in ss))

-- a value in round brackets
abbrev pub in_brackets : Value → Piece
in_brackets v = (r.condition, None, mark (put_value (value_of v) (mark nil)))

-- at least one value: the first, and those behind it
abbrev pub expressions_of : Value × List Value → Piece
expressions_of vs = (r.expressions, None, put_value (value_of vs.0) (further_values r.further_expression (values_of vs.1) nil))

-- all of the values, if there are any
abbrev pub all_values : Option (Value × List Value) → List Value
all_values None = []
all_values (Some vs) = vs.0 ∷ vs.1

-- the end of a list, and whether a `,` stands before it
abbrev pub closing_of : Bool → Piece
closing_of comma = piece_of (list_end r.closing r.comma_closing comma nil)

abbrev pub unset_list_of : List Value × Bool → Piece
unset_list_of x = (r.unset_list, None, mark (first_values r.further_argument (values_of x.0) (list_end r.closing r.comma_closing x.1 nil)))

-- the lists of a `for`
abbrev pub for_head_of : List Value → List Value → List Value → Piece
for_head_of vs us ws = (r.for_head, None, mark (may_values (values_of vs) (mark (may_values (values_of us) (mark (may_values (values_of ws) (mark nil)))))))

-- what the elements of a `foreach` are put into: the key, whether by reference, and the element
abbrev pub put_targets : Option Value → Bool → Value → Shape
put_targets key reference element = put_target (lists.may_value (option_map value_of key)) reference (put_value (value_of element) (mark nil)) nil

abbrev pub target_of : Option Value → Bool → Value → Piece
target_of key reference element = piece_of (put_targets key reference element)

abbrev pub for_each_head_of : Value → Option Value → Bool → Value → Piece
for_each_head_of v key reference element = (r.for_each_head, None, mark (put_value (value_of v) (mark (put_targets key reference element))))

-- the name and the number of a `declare`
abbrev pub directive_of : Token → Token → Piece
directive_of name number = (r.directive, None, mark (word name (mark (word number (mark nil)))))

-- the classes and the variable of a `catch`
abbrev pub catch_head_of : List Token → Option Token → Piece
catch_head_of classes variable = (r.catch_head, None, mark (first_words r.further_class classes (may_word r.catch_variable variable (mark nil))))
