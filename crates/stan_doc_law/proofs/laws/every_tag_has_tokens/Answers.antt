use Rattle.stan_doc_law.proofs.TokenLemmas.{every_tag_has_tokens}
use Rattle.stan_doc_law.proofs.laws.every_tag_has_tokens.Goals as goal

pub returns : goal.returns
returns c = every_tag_has_tokens
