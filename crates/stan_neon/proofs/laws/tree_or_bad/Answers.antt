use Rattle.stan_neon.proofs.DocumentLemmas.{tree-or-bad}
use Rattle.stan_neon.proofs.laws.tree_or_bad.Goals as goal

pub returns : goal.returns
returns c = tree-or-bad
