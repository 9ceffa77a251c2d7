use Rattle.std.proofs.Common.{length}
use Rattle.stan_type_normal.proofs.numbers.+put_range.Given as goal

abbrev pub decreases-put_range : goal.decreases-put_range
decreases-put_range l = length l.ranges.now
