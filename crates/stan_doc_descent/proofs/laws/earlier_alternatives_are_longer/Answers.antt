use Rattle.stan_doc_descent.proofs.Alternatives.{earlier_alternatives_are_longer}
use Rattle.stan_doc_descent.proofs.laws.earlier_alternatives_are_longer.Goals as goal

pub returns : goal.returns
returns c = earlier_alternatives_are_longer
