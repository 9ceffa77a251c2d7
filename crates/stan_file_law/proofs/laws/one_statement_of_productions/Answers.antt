use Rattle.stan_model_files.specs.Shapes.{nil}
use Rattle.stan_file_law.proofs.Same.{same}
use Rattle.stan_file_law.proofs.laws.one_statement_of_productions.Goals as goal

pub returns : goal.returns
returns c = λ s t h. (same s t nil nil h).0
