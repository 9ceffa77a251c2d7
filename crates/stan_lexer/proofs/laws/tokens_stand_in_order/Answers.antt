use Rattle.stan_lexer.proofs.OrderLemmas.{php_tokens_in_order}
use Rattle.stan_lexer.proofs.laws.tokens_stand_in_order.Goals as goal

pub returns : goal.returns
returns c = php_tokens_in_order
