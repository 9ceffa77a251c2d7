use Rattle.stan_neon_laws.proofs.QuotingLemmas.{single-kept}
use Rattle.stan_neon_laws.proofs.laws.single_quotes_keep_texts.Goals as goal

pub returns : goal.returns
returns c = single-kept
