use Rattle.stan_runs.proofs.RunLemmas.{run_end_is_run}
use Rattle.stan_lexer.proofs.laws.runs_end_where_the_test_fails.Goals as goal

pub returns : goal.returns
returns c = run_end_is_run
