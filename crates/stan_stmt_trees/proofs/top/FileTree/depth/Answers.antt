use Rattle.std.proofs.Common.{arith}
use Rattle.stan_stmt_trees.proofs.Depths.{tops_greatest}
use Rattle.stan_stmt_trees.proofs.top.FileTree.depth.Goals as goal

pub returns : goal.returns
returns c = rw tops_greatest (grind arith)
