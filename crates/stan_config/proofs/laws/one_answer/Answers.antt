use Rattle.stan_config.proofs.LawLemmas.{one_answer}
use Rattle.stan_config.proofs.laws.one_answer.Goals as goal

pub returns : goal.returns
returns c = one_answer
