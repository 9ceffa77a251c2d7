use Rattle.stan_lexer.proofs.MarkLemmas.{longest_mark}
use Rattle.stan_lexer.proofs.laws.longest_mark_is_read.Goals as goal

pub returns : goal.returns
returns c = longest_mark
