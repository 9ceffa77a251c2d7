use Rattle.stan_doc_law.proofs.ReadingLemmas.{one_reading}
use Rattle.stan_doc_law.proofs.laws.one_reading.Goals as goal

pub returns : goal.returns
returns c = one_reading
