use Rattle.stan_stmt_law.proofs.Front.{front_goes_on}
use Rattle.stan_stmt_law.proofs.laws.no_top_is_a_front.Goals as goal

pub returns : goal.returns
returns c = λ ts named f g at to end h i lt. front_goes_on ts named f g at to end h i lt
