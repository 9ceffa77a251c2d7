use Rattle.stan_model_files.specs.Shapes.{nil}
use Rattle.stan_file_law.proofs.Same.{same_tops}
use Rattle.stan_file_law.proofs.laws.one_tree_of_productions.Goals as goal

pub returns : goal.returns
returns c = λ xs ys h. (same_tops xs ys nil nil h).0
