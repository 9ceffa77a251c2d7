use Rattle.stan_read_law.proofs.Rows.{read_is_file}
use Rattle.stan_read_law.proofs.laws.read_is_file.Goals as goal

pub returns : goal.returns
returns c = λ ts named room xs. read_is_file ts named room xs
