use Rattle.stan_config.proofs.OnceLemmas.{no_file_twice}
use Rattle.stan_config.proofs.laws.no_file_is_read_twice.Goals as goal

pub returns : goal.returns
returns c = no_file_twice
