use Rattle.stan_config.proofs.LawLemmas.{some_neon}
use Rattle.stan_config.proofs.laws.every_project_is_answered.Goals as goal

pub returns : goal.returns
returns c = some_neon
