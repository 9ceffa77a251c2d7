use Rattle.stan_cli.proofs.ChosenLemmas.{chosen-sorted}
use Rattle.stan_cli.proofs.laws.chosen_once_in_order.Goals as goal

pub returns : goal.returns
returns c = λ paths contents. chosen-sorted contents paths
