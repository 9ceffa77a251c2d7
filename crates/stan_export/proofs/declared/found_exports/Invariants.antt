use Rattle.std.proofs.Common.{◌≡◌, ◌++◌, map, take}
use Rattle.std.specs.List.{flat_map}
use Rattle.stan_model_relations.specs.Exports.{export_of_found}
use Rattle.stan_expr_walk.specs.Found.{found_of}
use Rattle.stan_names.specs.Scopes.{scope_of}
use Rattle.stan_table.specs.Table.{node_of}
use Rattle.stan_export.proofs.declared.found_exports.Given as goal

-- what was found so far
abbrev pub invariant-loop-it : goal.invariant-loop-it
invariant-loop-it l = map node_of l.nodes.items ≡ map node_of l.initial.nodes.items ++ flat_map (λ f. export_of_found l.source (scope_of l.names) (found_of f)) (take l.it-index l.found)
