use Rattle.stan_type_laws.proofs.Again.{again}
use Rattle.stan_type_laws.proofs.laws.normal_form_is_its_own.Goals as goal

pub returns : goal.returns
returns c = again
