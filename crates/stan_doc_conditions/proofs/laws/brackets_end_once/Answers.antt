use Rattle.stan_doc_conditions.proofs.BracketLemmas.{brackets_end_once}
use Rattle.stan_doc_conditions.proofs.laws.brackets_end_once.Goals as goal

pub returns : goal.returns
returns c = brackets_end_once
