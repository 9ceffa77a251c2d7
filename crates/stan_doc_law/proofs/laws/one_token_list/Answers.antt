use Rattle.stan_doc_law.proofs.TokenLemmas.{one_token_list}
use Rattle.stan_doc_law.proofs.laws.one_token_list.Goals as goal

pub returns : goal.returns
returns c = one_token_list
