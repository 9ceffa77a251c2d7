use Rattle.stan_type_text.proofs.ScalarTexts.{scalar_texts_differ}
use Rattle.stan_type_text.proofs.laws.scalar_texts_differ.Goals as goal

pub returns : goal.returns
returns c = scalar_texts_differ
