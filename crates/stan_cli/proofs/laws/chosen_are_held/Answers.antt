use Rattle.stan_cli.proofs.ChosenLemmas.{Contains-chosen}
use Rattle.stan_cli.proofs.laws.chosen_are_held.Goals as goal

pub returns : goal.returns
returns c = λ paths contents path. Contains-chosen contents paths path
