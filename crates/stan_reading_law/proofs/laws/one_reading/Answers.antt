use Rattle.stan_reading_law.proofs.Unique.{one_reading}
use Rattle.stan_reading_law.proofs.laws.one_reading.Goals as goal

pub returns : goal.returns
returns c = one_reading
