use Rattle.stan_stmt_law.proofs.Front.{one_tree}
use Rattle.stan_stmt_law.proofs.laws.one_forest_of_tokens.Goals as goal

pub returns : goal.returns
returns c = λ ts named f g at to. one_tree ts named f g at to
