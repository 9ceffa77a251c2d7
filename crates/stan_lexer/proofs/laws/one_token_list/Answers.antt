use Rattle.stan_lexer.proofs.TokenLemmas.{one_php_token_list}
use Rattle.stan_lexer.proofs.laws.one_token_list.Goals as goal

pub returns : goal.returns
returns c = one_php_token_list
