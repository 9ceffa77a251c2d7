use Rattle.stan_expr_takes.proofs.Takes.{has_tree}
use Rattle.stan_expr_takes.proofs.laws.tokens_have_a_tree.Goals as goal

pub returns : goal.returns
returns c = has_tree
