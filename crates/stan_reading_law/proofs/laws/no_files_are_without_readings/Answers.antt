use Rattle.stan_reading_law.proofs.Existence.{some_readings}
use Rattle.stan_reading_law.proofs.laws.no_files_are_without_readings.Goals as goal

pub returns : goal.returns
returns c = some_readings
