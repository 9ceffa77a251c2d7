use Rattle.std.proofs.Common.{◌≡◌, length}
use Rattle.stan_model_config.specs.Said.{parts_with, no_parts}
use Rattle.stan_config_said.specs.Parts.{parts_view}
use Rattle.stan_config_said.proofs.entry.parts_of.Given as goal

-- The pairs that are left complete the entry.
abbrev pub invariant-loop-pair : goal.invariant-loop-pair
invariant-loop-pair l = parts_with l.file l.fn.pairs no_parts ≡ parts_with l.file l.left (parts_view l.parts)

abbrev pub decreases-loop-pair : goal.decreases-loop-pair
decreases-loop-pair l = length l.left
