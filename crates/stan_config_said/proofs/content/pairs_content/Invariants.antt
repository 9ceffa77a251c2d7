use Rattle.std.proofs.Common.{◌≡◌, length}
use Rattle.stan_model_config.specs.Said.{contents_with, empty}
use Rattle.stan_config_said.specs.Views.{content_view}
use Rattle.stan_config_said.proofs.content.pairs_content.Given as goal

-- The pairs that are left complete the content.
abbrev pub invariant-loop-pair : goal.invariant-loop-pair
invariant-loop-pair l = contents_with l.file l.fn.pairs empty ≡ contents_with l.file l.left (content_view l.content)

abbrev pub decreases-loop-pair : goal.decreases-loop-pair
decreases-loop-pair l = length l.left
