-- The tree of a file of the model that a value of the program stands for.
use Rattle.std.specs.Prelude.{map}
use Rattle.stan_model_statements.specs.Trees as model
use Rattle.stan_model_statements.specs.TreeLists as lists
use Rattle.stan_stmt_trees.specs.Tree.{statement_of}
use Rattle.stan_stmt_trees.specs.declared.top.Used.{Used}
use Rattle.stan_stmt_trees.specs.declared.top.FileTree.{FileTree}
use Rattle.stan_stmt_trees.specs.declared.top.Top.{Top}
use Rattle.stan_stmt_trees.specs.declared.top.Top.TheOpen.{Top-F}
use Rattle.stan_stmt_trees.specs.declared.top.Top.TheFolds as folds

abbrev pub used_of : Used → model.Used
used_of x = record { kind = x.kind; name = x.name; alias = x.alias }

abbrev pub top_step : Top-F model.Top → model.Top
top_step (Top-F.Namespace t name end) = model.Namespace t name end
top_step (Top-F.NamespaceBlock t name ts) = model.NamespaceBlock t name (lists.tops ts)
top_step (Top-F.Use t kind xs end) = model.Use t kind (map used_of xs) end
top_step (Top-F.UseGroup t kind name xs comma end) = model.UseGroup t kind name (map used_of xs) comma end
top_step (Top-F.Plain s) = model.Plain (statement_of s)

unfoldable pub top_of : Top → model.Top
top_of = folds.fold-Top model.Top top_step

abbrev pub file_of : FileTree → model.File
file_of f = record { tops = lists.tops (map top_of f.tops); comments = f.comments }
