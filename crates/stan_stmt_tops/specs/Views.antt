-- The productions that stand for declarations and statements at the top.
use Rattle.std.specs.Prelude.{List, None, map}
use Rattle.stan_model_statements.specs.Rules as r
use Rattle.stan_model_statements.specs.TreeLists as lists
use Rattle.stan_model_files.specs.Put.{put_top, put_tops}
use Rattle.stan_model_files.specs.Shapes.{nil, mark}
use Rattle.stan_stmt_trees.specs.Files.{top_of}
use Rattle.stan_stmt_trees.specs.declared.top.Top.{Top}
use Rattle.stan_stmt_parts.specs.Parse.{Piece, piece_of}
use Rattle.stan_stmt_tops.specs.declared.tops.TopRule.{TopRule}
use Rattle.stan_stmt_tops.specs.declared.tops.TopRule.TheVariants as picked

-- a declaration or a statement
unfoldable pub top_piece : Top → Piece
top_piece x = piece_of (put_top (top_of x) nil)

-- declarations and statements in braces
abbrev pub tops_of : List Top → Piece
tops_of xs = (r.tops, None, mark (put_tops (lists.tops (map top_of xs)) (mark nil)))

abbrev pub top_rule : TopRule → r.Rule
top_rule picked.Namespace = r.namespace_statement
top_rule picked.NamespaceBlock = r.namespace_block
top_rule picked.Use = r.use_declaration
top_rule picked.Plain = r.top_statement
