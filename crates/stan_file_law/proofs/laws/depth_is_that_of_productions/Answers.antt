use Rattle.std.proofs.Common.{arith}
use Rattle.stan_model_files.specs.Shapes.{nil}
use Rattle.stan_file_law.proofs.Depths.{tops_depth}
use Rattle.stan_file_law.proofs.laws.depth_is_that_of_productions.Goals as goal

pub returns : goal.returns
returns c = λ xs. omega (arith, tops_depth xs nil)
