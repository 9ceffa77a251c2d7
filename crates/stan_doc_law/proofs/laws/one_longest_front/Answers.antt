use Rattle.stan_doc_law.proofs.FrontLemmas.{one_longest_front}
use Rattle.stan_doc_law.proofs.laws.one_longest_front.Goals as goal

pub returns : goal.returns
returns c = one_longest_front
