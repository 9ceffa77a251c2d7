use Rattle.stan_type_laws.proofs.Associating.{associates}
use Rattle.stan_type_laws.proofs.laws.union_is_associative.Goals as goal

pub returns : goal.returns
returns c = associates
