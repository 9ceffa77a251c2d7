use Rattle.std.proofs.Common.{◌≡◌, drop}
use Rattle.std.specs.Prelude.{map}
use Rattle.stan_model_config.specs.Faults.{entry_fault, items_fault}
use Rattle.stan_config_keys.proofs.entry.entry_items_fault.Given as goal

-- The items so far are at no fault.
abbrev pub invariant-loop-at : goal.invariant-loop-at
invariant-loop-at l = items_fault 0 (map (entry_fault l.file) l.nodes) ≡ items_fault l.at (map (entry_fault l.file) (drop l.at l.nodes))
