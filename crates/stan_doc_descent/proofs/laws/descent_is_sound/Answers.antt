use Rattle.stan_doc_descent.proofs.Reading.{descent_is_sound}
use Rattle.stan_doc_descent.proofs.laws.descent_is_sound.Goals as goal

pub returns : goal.returns
returns c = descent_is_sound
