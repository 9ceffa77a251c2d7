use Rattle.stan_neon_laws.proofs.PlainTextLemmas.{plain-kept}
use Rattle.stan_neon_laws.proofs.laws.plain_texts_are_kept.Goals as goal

pub returns : goal.returns
returns c = plain-kept
