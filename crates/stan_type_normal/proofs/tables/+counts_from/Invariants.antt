use Rattle.std.proofs.Common.{length}
use Rattle.stan_type_normal.proofs.tables.+counts_from.Given as goal

abbrev pub decreases-counts_from : goal.decreases-counts_from
decreases-counts_from l = length l.fields.now
