use Rattle.std.proofs.Common.{sym}
use Rattle.std.proofs.lemmas.List.Folds.{flat_map-map}
use Rattle.stan_expr_walk.specs.Found.{found_of}
use Rattle.stan_names.specs.Scopes.{scope_of}
use Rattle.stan_table.specs.Index.{index_table}
use Rattle.stan_analyse.specs.Faults.{faults_of_found}
use Rattle.stan_analyse.proofs.faults.statement_faults.Goals as goal

pub returns : goal.returns
returns c =
    let judging = c.args.judging.now in
    rw (sym c.in_ok-found.ensures.exact, flat_map-map (faults_of_found (index_table judging.index.now) judging.source.now (scope_of c.args.names.now)) found_of c.in_ok-found.found.items)
    (rw c.as_slice.ensures.value at c.all_faults.ensures)
