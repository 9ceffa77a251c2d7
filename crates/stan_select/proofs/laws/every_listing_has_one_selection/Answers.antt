use Rattle.stan_select.proofs.Existence.{one_selection}
use Rattle.stan_select.proofs.laws.every_listing_has_one_selection.Goals as goal

pub returns : goal.returns
returns c = one_selection
