-- What the bodies of closures put.
use Rattle.std.specs.Prelude.{List, map}
use Rattle.stan_model_statements.specs.TreeLists as lists
use Rattle.stan_model_files.specs.Put.{put_all, put_bodies}
use Rattle.stan_model_files.specs.Shapes.{Shape, nil, mark, Bodies}
use Rattle.stan_stmt_trees.specs.Tree.{statement_of, body_of}
use Rattle.stan_stmt_trees.specs.declared.statement.ReadBody.{ReadBody}
use Rattle.stan_stmt_trees.specs.declared.statement.Stmt.{Stmt}

-- statements, and the `}` behind them
abbrev pub closed : List Stmt → Shape
closed ss = put_all (lists.statements (map statement_of ss)) (mark nil)

abbrev pub shape_of : ReadBody → Shape
shape_of x = put_all (body_of x).statements (mark nil)

abbrev pub shapes_of : List ReadBody → Bodies
shapes_of xs = put_bodies (lists.bodies (map body_of xs))
