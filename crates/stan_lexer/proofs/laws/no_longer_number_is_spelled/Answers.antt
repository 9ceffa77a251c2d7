use Rattle.stan_lexer.proofs.SpellingLemmas.{no_longer_number}
use Rattle.stan_lexer.proofs.laws.no_longer_number_is_spelled.Goals as goal

pub returns : goal.returns
returns c = no_longer_number
