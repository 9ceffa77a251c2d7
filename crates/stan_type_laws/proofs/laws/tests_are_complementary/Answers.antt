use Rattle.stan_type_laws.proofs.Tests.{whole_again}
use Rattle.stan_type_laws.proofs.laws.tests_are_complementary.Goals as goal

pub returns : goal.returns
returns c = whole_again
