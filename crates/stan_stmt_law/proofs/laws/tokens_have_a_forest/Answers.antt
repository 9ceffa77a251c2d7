use Rattle.stan_stmt_law.proofs.Front.{tree_there}
use Rattle.stan_stmt_law.proofs.laws.tokens_have_a_forest.Goals as goal

pub returns : goal.returns
returns c = λ ts named f at to h e. tree_there ts named f at to h e
