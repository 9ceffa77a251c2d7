use Rattle.stan_parts_law.proofs.Forgets.{part_forgets}
use Rattle.stan_parts_law.proofs.laws.parts_are_those_of_productions.Goals as goal

pub returns : goal.returns
returns c = part_forgets
