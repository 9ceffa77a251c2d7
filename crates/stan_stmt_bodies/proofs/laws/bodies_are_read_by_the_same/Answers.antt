use Rattle.stan_stmt_bodies.proofs.Unrolled.{value_is}
use Rattle.stan_stmt_bodies.proofs.laws.bodies_are_read_by_the_same.Goals as goal

pub returns : goal.returns
returns c = value_is
