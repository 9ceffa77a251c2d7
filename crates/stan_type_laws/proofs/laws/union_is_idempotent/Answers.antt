use Rattle.stan_type_laws.proofs.Again.{twice}
use Rattle.stan_type_laws.proofs.laws.union_is_idempotent.Goals as goal

pub returns : goal.returns
returns c = twice
