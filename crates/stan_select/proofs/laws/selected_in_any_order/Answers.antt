use Rattle.stan_select.proofs.SelectionLemmas.{selections_alike}
use Rattle.stan_select.proofs.laws.selected_in_any_order.Goals as goal

pub returns : goal.returns
returns c = selections_alike
