use Rattle.stan_doc_conditions.proofs.ConditionLemmas.{conditions_are_read}
use Rattle.stan_doc_conditions.proofs.laws.conditions_are_read.Goals as goal

pub returns : goal.returns
returns c = conditions_are_read
