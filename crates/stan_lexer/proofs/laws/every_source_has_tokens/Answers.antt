use Rattle.stan_lexer.proofs.ExistLemmas.{some_tokens}
use Rattle.stan_lexer.proofs.laws.every_source_has_tokens.Goals as goal

pub returns : goal.returns
returns c = some_tokens
