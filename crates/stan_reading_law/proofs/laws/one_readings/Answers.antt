use Rattle.stan_reading_law.proofs.Unique.{one_readings}
use Rattle.stan_reading_law.proofs.laws.one_readings.Goals as goal

pub returns : goal.returns
returns c = one_readings
