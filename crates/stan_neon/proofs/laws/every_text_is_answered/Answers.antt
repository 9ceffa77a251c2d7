use Rattle.stan_neon.proofs.DocumentLemmas.{answered}
use Rattle.stan_neon.proofs.laws.every_text_is_answered.Goals as goal

pub returns : goal.returns
returns c = answered
