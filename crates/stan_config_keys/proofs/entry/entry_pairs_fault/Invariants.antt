use Rattle.std.proofs.Common.{◌≡◌, [], drop, take}
use Rattle.std.specs.Prelude.{map}
use Rattle.stan_model_config.specs.Faults.{entry_pair_fault, pairs_fault}
use Rattle.stan_config_keys.proofs.entry.entry_pairs_fault.Given as goal

-- The pairs so far are at no fault.
abbrev pub invariant-loop-at : goal.invariant-loop-at
invariant-loop-at l = pairs_fault [] (map (entry_pair_fault l.file) l.pairs) ≡ pairs_fault (map (λ pair. pair.0) (take l.at l.pairs)) (map (entry_pair_fault l.file) (drop l.at l.pairs))
