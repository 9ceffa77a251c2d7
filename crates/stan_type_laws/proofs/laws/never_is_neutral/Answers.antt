use Rattle.stan_type_laws.proofs.Again.{again, with_never}
use Rattle.stan_type_laws.proofs.laws.never_is_neutral.Goals as goal

pub returns : goal.returns
returns c = record { left = again; right = with_never }
