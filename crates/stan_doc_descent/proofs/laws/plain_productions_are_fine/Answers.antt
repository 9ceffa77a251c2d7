use Rattle.stan_doc_descent.proofs.Checks.{plain_productions_are_fine}
use Rattle.stan_doc_descent.proofs.laws.plain_productions_are_fine.Goals as goal

pub returns : goal.returns
returns c = plain_productions_are_fine
