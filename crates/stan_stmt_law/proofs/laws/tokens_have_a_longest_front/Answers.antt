use Rattle.stan_stmt_law.proofs.Front.{some_longest}
use Rattle.stan_stmt_law.proofs.laws.tokens_have_a_longest_front.Goals as goal

pub returns : goal.returns
returns c = λ ts named. some_longest ts named
