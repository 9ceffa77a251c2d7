use Rattle.std.proofs.Common.{◌≡◌, ◌++◌, map, drop}
use Rattle.stan_analyst.specs.Verdict.{fault_of}
use Rattle.stan_model_statements.specs.TreeLists.{tops}
use Rattle.stan_model_walk.specs.Scopes.{in_tops}
use Rattle.stan_names.specs.Scopes.{scope_of}
use Rattle.stan_stmt_trees.specs.Files.{top_of}
use Rattle.stan_table.specs.Index.{index_table}
use Rattle.stan_analyse.specs.Faults.{faults_of_statement}
use Rattle.stan_analyse.proofs.faults.+tops.Given as goal

-- with those of the rest they are all
abbrev pub invariant-tops_faults-loop-top : goal.invariant-tops_faults-loop-top
invariant-tops_faults-loop-top l =
    let source = l.judging.source.now in
    map fault_of l.faults.items ++ in_tops (faults_of_statement (index_table l.judging.index.now) source) source (scope_of l.names) (tops (map top_of (drop l.top-index l.list)))
    ≡ map fault_of l.initial.faults.items ++ in_tops (faults_of_statement (index_table l.judging.index.now) source) source (scope_of l.initial.names) (tops (map top_of l.list))
