use Rattle.stan_expr_law.proofs.TreeLemmas.{ends_join_none}
use Rattle.stan_expr_law.proofs.laws.ends_go_on_with_nothing.Goals as goal

pub returns : goal.returns
returns c = ends_join_none
