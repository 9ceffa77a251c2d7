use Rattle.std.proofs.Common.{◌≡◌, ℕ, List, [], drop, take}
use Rattle.std.specs.Prelude.{map}
use Rattle.stan_config_paths.specs.TextSet.{has}
use Rattle.stan_model_config.specs.Faults.{free_fault, items_fault, pairs_fault, is_among}
use Rattle.stan_config_keys.proofs.free.+free.Given as goal

-- The items so far are at no fault.
abbrev pub invariant-free_items_fault-loop-at : goal.invariant-free_items_fault-loop-at
invariant-free_items_fault-loop-at l = items_fault 0 (map free_fault l.nodes) ≡ items_fault l.at (map free_fault (drop l.at l.nodes))

-- The pairs so far are at no fault, and the set has their keys.
abbrev pub invariant-free_pairs_fault-loop-pair : goal.invariant-free_pairs_fault-loop-pair
invariant-free_pairs_fault-loop-pair l = record {
  left : pairs_fault [] (map (λ pair. (pair.0, free_fault pair.1)) l.pairs) ≡ pairs_fault (map (λ pair. pair.0) (take l.pair-index l.pairs)) (map (λ pair. (pair.0, free_fault pair.1)) (drop l.pair-index l.pairs));
  keys : (key : List ℕ) → has l.keys key ≡ is_among (map (λ pair. pair.0) (take l.pair-index l.pairs)) key;
}
