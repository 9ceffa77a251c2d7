use Rattle.stan_config.proofs.LawLemmas.{root_first}
use Rattle.stan_config.proofs.laws.the_root_comes_first.Goals as goal

pub returns : goal.returns
returns c = root_first
