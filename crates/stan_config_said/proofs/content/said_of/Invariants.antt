use Rattle.std.proofs.Common.{◌≡◌, length}
use Rattle.stan_model_config.specs.Said.{said_with, nothing}
use Rattle.stan_config_said.specs.Views.{said_view}
use Rattle.stan_config_said.proofs.content.said_of.Given as goal

-- The pairs that are left complete what is said.
abbrev pub invariant-loop-pair : goal.invariant-loop-pair
invariant-loop-pair l = said_with l.file l.fn.pairs nothing ≡ said_with l.file l.left (said_view l.said)

abbrev pub decreases-loop-pair : goal.decreases-loop-pair
decreases-loop-pair l = length l.left
