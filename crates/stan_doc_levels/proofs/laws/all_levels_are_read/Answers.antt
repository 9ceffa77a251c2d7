use Rattle.stan_doc_levels.proofs.LevelLemmas.{all_levels_are_read}
use Rattle.stan_doc_levels.proofs.laws.all_levels_are_read.Goals as goal

pub returns : goal.returns
returns c = all_levels_are_read
