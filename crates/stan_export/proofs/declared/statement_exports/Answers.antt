use Rattle.std.proofs.Common.{sym}
use Rattle.std.proofs.lemmas.List.Folds.{flat_map-map}
use Rattle.stan_model_relations.specs.Exports.{export_of_found}
use Rattle.stan_expr_walk.specs.Found.{found_of}
use Rattle.stan_names.specs.Scopes.{scope_of}
use Rattle.stan_export.proofs.declared.statement_exports.Goals as goal

pub returns : goal.returns
returns c =
    rw (sym c.in_ok-found.ensures.exact, flat_map-map (export_of_found c.args.source.now (scope_of c.args.names.now)) found_of c.in_ok-found.found.items)
    (rw c.as_slice.ensures.value at c.found_exports.ensures)
