use Rattle.stan_read_law.proofs.Readings.{tree_is_read}
use Rattle.stan_read_law.proofs.laws.tree_is_read.Goals as goal

pub returns : goal.returns
returns c = λ ts named x from to. tree_is_read ts named x from to
