use Rattle.std.proofs.Common.{length}
use Rattle.stan_type_merge.proofs.merge.+push_below.Given as goal

abbrev pub decreases-push_below : goal.decreases-push_below
decreases-push_below l = length l.parts.now
