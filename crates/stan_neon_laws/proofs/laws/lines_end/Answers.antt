use Rattle.stan_neon_laws.proofs.PlainTextLemmas.{lines-end}
use Rattle.stan_neon_laws.proofs.laws.lines_end.Goals as goal

pub returns : goal.returns
returns c = lines-end
