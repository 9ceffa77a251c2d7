use Rattle.stan_read_law.proofs.Fronts.{file_is_read}
use Rattle.stan_read_law.proofs.laws.file_is_read.Goals as goal

pub returns : goal.returns
returns c = λ ts named xs. file_is_read ts named xs
