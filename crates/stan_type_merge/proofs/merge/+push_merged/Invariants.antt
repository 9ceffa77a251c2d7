use Rattle.std.proofs.Common.{length}
use Rattle.stan_type_merge.proofs.merge.+push_merged.Given as goal

abbrev pub decreases-push_merged : goal.decreases-push_merged
decreases-push_merged l = length l.parts.now
