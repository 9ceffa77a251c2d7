use Rattle.stan_base.proofs.LineLemmas.{line_of-le}
use Rattle.stan_base.proofs.laws.lines_do_not_fall.Goals as goal

pub returns : goal.returns
returns c = line_of-le
