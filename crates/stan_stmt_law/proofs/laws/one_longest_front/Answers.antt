use Rattle.stan_stmt_law.proofs.Front.{one_longest}
use Rattle.stan_stmt_law.proofs.laws.one_longest_front.Goals as goal

pub returns : goal.returns
returns c = λ ts named fs gs to end. one_longest ts named fs gs to end
