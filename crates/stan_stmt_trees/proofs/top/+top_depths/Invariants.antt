use Rattle.std.proofs.Common.{◌≡◌, ◌-◌, ◌^◌, take, min}
use Rattle.stan_model_statements.specs.Depth.{top_depth}
use Rattle.stan_syntax.specs.Depth.{greatest}
use Rattle.stan_stmt_trees.specs.Files.{top_of}
use Rattle.stan_stmt_trees.proofs.top.+top_depths.Given as goal

abbrev pub invariant-tops_depth-loop-top : goal.invariant-tops_depth-loop-top
invariant-tops_depth-loop-top l = l.most ≡ min (greatest (λ x. top_depth (top_of x)) (take l.top-index l.tops)) (2 ^ 32 - 1)
