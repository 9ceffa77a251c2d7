use Rattle.std.proofs.Common.{◌≡◌, ◌++◌, take}
use Rattle.std.specs.List.{flat_map}
use Rattle.stan_stmt_owners.specs.Owned.{top_owned}
use Rattle.stan_stmt_trees.specs.Files.{top_of}
use Rattle.stan_stmt_owners.proofs.owners.+tops.Given as goal

abbrev pub invariant-tops_owned-loop-top : goal.invariant-tops_owned-loop-top
invariant-tops_owned-loop-top l = l.found.items ≡ l.initial.found.items ++ flat_map (λ x. top_owned (top_of x)) (take l.top-index l.tops)
