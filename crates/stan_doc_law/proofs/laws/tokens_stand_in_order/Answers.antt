use Rattle.stan_doc_law.proofs.TokenLemmas.{tokens_stand_in_order}
use Rattle.stan_doc_law.proofs.laws.tokens_stand_in_order.Goals as goal

pub returns : goal.returns
returns c = tokens_stand_in_order
