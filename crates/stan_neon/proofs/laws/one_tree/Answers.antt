use Rattle.stan_neon.proofs.DocumentLemmas.{one-tree}
use Rattle.stan_neon.proofs.laws.one_tree.Goals as goal

pub returns : goal.returns
returns c = one-tree
