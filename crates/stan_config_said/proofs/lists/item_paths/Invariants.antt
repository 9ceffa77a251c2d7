use Rattle.std.proofs.Common.{◌≡◌, ◌++◌, drop}
use Rattle.std.specs.Prelude.{map, string_bytes}
use Rattle.std.specs.List.{filter_map}
use Rattle.stan_model_config.specs.Values.{path_of}
use Rattle.stan_config_said.proofs.lists.item_paths.Given as goal

-- The paths so far, and those that are left.
abbrev pub invariant-loop-node : goal.invariant-loop-node
invariant-loop-node l = filter_map (path_of l.file) l.nodes ≡ map string_bytes l.paths.items ++ filter_map (path_of l.file) (drop l.node-index l.nodes)
