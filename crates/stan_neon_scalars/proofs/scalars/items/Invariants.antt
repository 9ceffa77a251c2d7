use Rattle.std.proofs.Common.{◌≡◌, ◌+◌, ◌-◌, ◌≤◌, drop, length}
use Rattle.stan_neon_scalars.specs.Scalars.{items_within}
use Rattle.stan_neon_scalars.proofs.ItemLemmas.{behind_nodes}
use Rattle.stan_neon_scalars.proofs.scalars.items.Given as goal

-- The items that are left complete the list, within what is left of the bound.
abbrev pub invariant-items : goal.invariant-items
invariant-items l = record {
  within : l.at ≤ length l.bytes;
  room : length l.nodes + l.from ≤ l.at;
  same : items_within (length (drop l.from l.bytes)) (drop l.from l.bytes) ≡ behind_nodes l.nodes (items_within (length (drop l.from l.bytes) - length l.nodes) (drop l.at l.bytes));
}

abbrev pub decreases-items : goal.decreases-items
decreases-items l = length l.bytes - l.at
