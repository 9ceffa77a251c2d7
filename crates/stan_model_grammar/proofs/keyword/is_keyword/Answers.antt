use Rattle.stan_model_grammar.proofs.KeywordLemmas.{one_keyword}
use Rattle.stan_model_grammar.proofs.keyword.is_keyword.Goals as goal

pub returns-in-Abstract : goal.returns-in-Abstract
returns-in-Abstract c = one_keyword c.args.kind c.in-Abstract.is
