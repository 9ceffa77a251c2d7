use Rattle.stan_reading_law.proofs.Existence.{some_reading}
use Rattle.stan_reading_law.proofs.laws.no_file_is_without_a_reading.Goals as goal

pub returns : goal.returns
returns c = some_reading
