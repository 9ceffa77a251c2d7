use Rattle.stan_neon_laws.proofs.QuotingLemmas.{double-kept}
use Rattle.stan_neon_laws.proofs.laws.double_quotes_keep_texts.Goals as goal

pub returns : goal.returns
returns c = double-kept
