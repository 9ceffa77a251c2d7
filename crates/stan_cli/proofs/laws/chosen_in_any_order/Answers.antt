use Rattle.stan_cli.proofs.ChosenLemmas.{chosen_alike}
use Rattle.stan_cli.proofs.laws.chosen_in_any_order.Goals as goal

pub returns : goal.returns
returns c = chosen_alike
