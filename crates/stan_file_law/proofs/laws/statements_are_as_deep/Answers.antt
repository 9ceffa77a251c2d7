use Rattle.std.proofs.Common.{arith}
use Rattle.stan_model_files.specs.Shapes.{nil}
use Rattle.stan_file_law.proofs.Depths.{statement_depth}
use Rattle.stan_file_law.proofs.laws.statements_are_as_deep.Goals as goal

pub returns : goal.returns
returns c = λ s. omega (arith, statement_depth s nil)
