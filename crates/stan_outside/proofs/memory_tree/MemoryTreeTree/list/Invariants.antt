use Rattle.std.proofs.Common.{◌≡◌, map, take, string_bytes}
use Rattle.stan_outside.specs.Memory.{path_of}
use Rattle.stan_outside.proofs.memory_tree.MemoryTreeTree.list.Given as goal

abbrev pub invariant-loop-path : goal.invariant-loop-path
invariant-loop-path l = map string_bytes l.paths.items ≡ map path_of (take l.path-index l.path-items)
