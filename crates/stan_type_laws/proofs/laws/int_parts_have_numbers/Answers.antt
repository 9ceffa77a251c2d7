use Rattle.stan_type_laws.proofs.Again.{have_numbers}
use Rattle.stan_type_laws.proofs.laws.int_parts_have_numbers.Goals as goal

pub returns : goal.returns
returns c = have_numbers
