use Rattle.std.proofs.Common.{sym}
use Rattle.stan_model_types.specs.TypeBytes.{type_bytes}
use Rattle.stan_type.proofs.Orders.{answer_is}
use Rattle.stan_type.proofs.equal.order.Goals as goal

pub returns-clause-order : goal.returns-clause-order
returns-clause-order c = sym (answer_is c.compare_types.result (type_bytes c.args.a.now) (type_bytes c.args.b.now) c.compare_types.ensures.decides)
