use Rattle.stan_stmt_law.proofs.Front.{one_file}
use Rattle.stan_stmt_law.proofs.laws.one_file_of_tokens.Goals as goal

pub returns : goal.returns
returns c = λ ts named fs gs. one_file ts named fs gs
