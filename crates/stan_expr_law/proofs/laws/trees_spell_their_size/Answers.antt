use Rattle.stan_expr_law.proofs.SizeLemmas.{tree_size}
use Rattle.stan_expr_law.proofs.laws.trees_spell_their_size.Goals as goal

pub returns : goal.returns
returns c = tree_size
