use Rattle.stan_analyst.proofs.FaultOrder.{in_order_alike}
use Rattle.stan_analyst.proofs.laws.faults_in_any_order.Goals as goal

pub returns : goal.returns
returns c = λ faults others same. in_order_alike faults others (λ fault. (same fault).0) (λ fault. (same fault).1)
