use Rattle.stan_analyse.proofs.FaultLemmas.{in_order-sorted}
use Rattle.stan_analyse.proofs.faults.in_order.Goals as goal

pub returns : goal.returns
returns c = in_order-sorted c.args.faults.items c.sort.new.self.items c.dedup.new.self.items c.in_ok-sort.ensures.permutation c.in_ok-sort.ensures.sorted c.dedup.ensures.filtered
