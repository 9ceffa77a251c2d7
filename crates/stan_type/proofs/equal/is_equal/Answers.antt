use Rattle.stan_type.proofs.Orders.{greater_differs, less_differs}
use Rattle.stan_type.proofs.equal.is_equal.Goals as goal

pub returns-in-Less : goal.returns-in-Less
returns-in-Less c = ((λ h. cc), (λ e. absurd (less_differs c.args.a.now c.args.b.now c.in-Less.ensures.order e)))

pub returns-in-Greater : goal.returns-in-Greater
returns-in-Greater c = ((λ h. cc), (λ e. absurd (greater_differs c.args.a.now c.args.b.now c.in-Greater.ensures.order e)))
