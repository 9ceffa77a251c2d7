use Rattle.stan_doc_descent.proofs.Alternatives.{parts_are_read}
use Rattle.stan_doc_descent.proofs.laws.parts_are_read.Goals as goal

pub returns : goal.returns
returns c = parts_are_read
