use Rattle.std.proofs.Common.{◌≡◌, map, take}
use Rattle.stan_model_walk.specs.Scopes.{with_uses, used}
use Rattle.stan_names.specs.Scopes.{scope_of}
use Rattle.stan_stmt_trees.specs.Files.{used_of}
use Rattle.stan_scopes.proofs.uses.add_all.Given as goal

-- the uses so far
abbrev pub invariant-loop-item : goal.invariant-loop-item
invariant-loop-item l = scope_of l.names ≡ with_uses (scope_of l.initial.names) (map (λ x. used l.source (scope_of l.initial.names) l.kind (used_of x)) (take l.item-index l.items))
