use Rattle.stan_neon.proofs.DocumentLemmas.{one-bad-line}
use Rattle.stan_neon.proofs.laws.one_bad_line.Goals as goal

pub returns : goal.returns
returns c = one-bad-line
