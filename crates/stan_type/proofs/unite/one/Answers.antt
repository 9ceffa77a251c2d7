use Rattle.stan_model_types.specs.NormalForms.{normal}
use Rattle.stan_type.proofs.unite.one.Goals as goal

pub returns : goal.returns
unfolding normal
returns c = rw (c.as_slice.ensures.value, c.in_ok-push.ensures.items, c.in_ok-parts.ensures.items) at c.in_ok-t.ensures
