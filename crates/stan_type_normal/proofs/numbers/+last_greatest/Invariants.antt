use Rattle.std.proofs.Common.{length}
use Rattle.stan_type_normal.proofs.numbers.+last_greatest.Given as goal

abbrev pub decreases-last_greatest : goal.decreases-last_greatest
decreases-last_greatest l = length l.ranges.now
