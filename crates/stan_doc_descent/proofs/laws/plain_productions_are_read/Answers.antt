use Rattle.stan_doc_descent.proofs.Alternatives.{plain_productions_are_read}
use Rattle.stan_doc_descent.proofs.laws.plain_productions_are_read.Goals as goal

pub returns : goal.returns
returns c = plain_productions_are_read
