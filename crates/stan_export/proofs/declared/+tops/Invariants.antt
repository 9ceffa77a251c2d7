use Rattle.std.proofs.Common.{◌≡◌, ◌++◌, map, drop}
use Rattle.stan_model_relations.specs.Exports.{exports_of_statement}
use Rattle.stan_model_statements.specs.TreeLists.{tops}
use Rattle.stan_model_walk.specs.Scopes.{in_tops}
use Rattle.stan_names.specs.Scopes.{scope_of}
use Rattle.stan_stmt_trees.specs.Files.{top_of}
use Rattle.stan_table.specs.Table.{node_of}
use Rattle.stan_export.proofs.declared.+tops.Given as goal

-- with what the rest declares it is all
abbrev pub invariant-tops_exports-loop-top : goal.invariant-tops_exports-loop-top
invariant-tops_exports-loop-top l =
    map node_of l.nodes.items ++ in_tops (exports_of_statement l.source) l.source (scope_of l.names) (tops (map top_of (drop l.top-index l.list)))
    ≡ map node_of l.initial.nodes.items ++ in_tops (exports_of_statement l.source) l.source (scope_of l.initial.names) (tops (map top_of l.list))
