use Rattle.stan_read_law.proofs.Fronts.{read_is_longest_front}
use Rattle.stan_read_law.proofs.laws.read_is_longest_front.Goals as goal

pub returns : goal.returns
returns c = λ ts named room le xs to. read_is_longest_front ts named room le xs to
