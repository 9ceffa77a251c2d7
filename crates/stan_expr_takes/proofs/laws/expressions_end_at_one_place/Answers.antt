use Rattle.stan_expr_takes.proofs.Takes.{one_end}
use Rattle.stan_expr_takes.proofs.laws.expressions_end_at_one_place.Goals as goal

pub returns : goal.returns
returns c = one_end
