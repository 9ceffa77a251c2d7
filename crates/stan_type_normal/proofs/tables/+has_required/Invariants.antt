use Rattle.std.proofs.Common.{length}
use Rattle.stan_type_normal.proofs.tables.+has_required.Given as goal

abbrev pub decreases-has_required : goal.decreases-has_required
decreases-has_required l = length l.fields.now
