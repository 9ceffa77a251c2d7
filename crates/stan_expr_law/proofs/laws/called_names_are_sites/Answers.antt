use Rattle.stan_expr_law.proofs.CalledLemmas.{tree_seen}
use Rattle.stan_expr_law.proofs.laws.called_names_are_sites.Goals as goal

pub returns : goal.returns
returns c = tree_seen
