use Rattle.std.proofs.Common.{◌≡◌, ◌++◌, map, take}
use Rattle.std.specs.List.{flat_map}
use Rattle.stan_analyst.specs.Verdict.{fault_of}
use Rattle.stan_expr_walk.specs.Found.{found_of}
use Rattle.stan_names.specs.Scopes.{scope_of}
use Rattle.stan_table.specs.Index.{index_table}
use Rattle.stan_analyse.specs.Faults.{faults_of_found}
use Rattle.stan_analyse.proofs.faults.all_faults.Given as goal

-- those of what was found so far
abbrev pub invariant-loop-it : goal.invariant-loop-it
invariant-loop-it l =
    map fault_of l.faults.items
    ≡ map fault_of l.initial.faults.items ++ flat_map (λ f. faults_of_found (index_table l.judging.index.now) l.judging.source.now (scope_of l.names) (found_of f)) (take l.it-index l.found)
