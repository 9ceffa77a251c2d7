use Rattle.stan_type_order.proofs.Deciding.{decides_number}
use Rattle.stan_type_order.proofs.fields.compare_lengths.Goals as goal

pub returns-clause-decides : goal.returns-clause-decides
returns-clause-decides c = rw c.cmp.ensures (decides_number c.args.a c.args.b c.ranges.a.fits c.ranges.b.fits)
