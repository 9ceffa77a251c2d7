use Rattle.std.proofs.Common.{◌≢◌}
use Rattle.std.specs.List.{AllWithin}
use Rattle.stan_outside.specs.Memory.{path_of}
use Rattle.stan_outside.proofs.memory_tree.find_from.Given as goal

abbrev pub invariant-loop-place : goal.invariant-loop-place
invariant-loop-place l = AllWithin (λ file. path_of file ≢ l.path) l.files l.first l.place
