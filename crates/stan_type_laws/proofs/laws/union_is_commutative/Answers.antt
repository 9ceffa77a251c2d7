use Rattle.stan_type_laws.proofs.Commuting.{commutes}
use Rattle.stan_type_laws.proofs.laws.union_is_commutative.Goals as goal

pub returns : goal.returns
returns c = commutes
