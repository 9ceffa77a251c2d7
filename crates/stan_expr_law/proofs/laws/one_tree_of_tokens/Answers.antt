use Rattle.stan_expr_law.proofs.TreeLemmas.{one_tree}
use Rattle.stan_expr_law.proofs.laws.one_tree_of_tokens.Goals as goal

pub returns : goal.returns
returns c = one_tree
