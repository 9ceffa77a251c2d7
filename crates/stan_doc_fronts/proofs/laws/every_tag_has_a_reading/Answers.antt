use Rattle.stan_doc_fronts.proofs.FrontLemmas.{every_tag_has_a_reading}
use Rattle.stan_doc_fronts.proofs.laws.every_tag_has_a_reading.Goals as goal

pub returns : goal.returns
returns c = every_tag_has_a_reading
