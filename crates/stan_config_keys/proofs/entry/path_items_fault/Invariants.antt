use Rattle.std.proofs.Common.{◌≡◌, drop}
use Rattle.std.specs.Prelude.{map}
use Rattle.stan_model_config.specs.Faults.{unless_some, items_fault}
use Rattle.stan_model_config.specs.Values.{path_of}
use Rattle.stan_config_keys.proofs.entry.path_items_fault.Given as goal

-- The items so far are at no fault.
abbrev pub invariant-loop-at : goal.invariant-loop-at
invariant-loop-at l = items_fault 0 (map (λ node. unless_some (path_of l.file node)) l.nodes) ≡ items_fault l.at (map (λ node. unless_some (path_of l.file node)) (drop l.at l.nodes))
