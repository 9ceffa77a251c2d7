use Rattle.stan_doc_law.proofs.FrontLemmas.{trees_spell_their_size}
use Rattle.stan_doc_law.proofs.laws.trees_spell_their_size.Goals as goal

pub returns : goal.returns
returns c = trees_spell_their_size
