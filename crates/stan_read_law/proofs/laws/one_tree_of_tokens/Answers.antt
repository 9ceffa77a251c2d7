use Rattle.stan_read_law.proofs.Rows.{one_tree_of_tokens}
use Rattle.stan_read_law.proofs.laws.one_tree_of_tokens.Goals as goal

pub returns : goal.returns
returns c = λ ts named xs ys. one_tree_of_tokens ts named xs ys
