use Rattle.stan_read_law.proofs.Trees.{read_is_tree}
use Rattle.stan_read_law.proofs.laws.read_is_tree.Goals as goal

pub returns : goal.returns
returns c = λ ts named room x from to. read_is_tree ts named room x from to
