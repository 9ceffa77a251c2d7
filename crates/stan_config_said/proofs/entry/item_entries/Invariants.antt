use Rattle.std.proofs.Common.{◌≡◌, ◌++◌, length}
use Rattle.std.specs.Prelude.{map, reverse}
use Rattle.stan_model_config.specs.Said.{entry_of}
use Rattle.stan_config_said.specs.Views.{entry_view}
use Rattle.stan_config_said.proofs.entry.item_entries.Given as goal

-- The items that are left stand before the entries so far, which are in reverse.
abbrev pub invariant-loop-node : goal.invariant-loop-node
invariant-loop-node l = map (entry_of l.file) l.fn.nodes ≡ map (entry_of l.file) l.left ++ reverse (map entry_view l.entries.items)

abbrev pub decreases-loop-node : goal.decreases-loop-node
decreases-loop-node l = length l.left
