use Rattle.stan_type_filters.proofs.Widest.{mixed_normal}
use Rattle.stan_type_filters.proofs.kept.implicit_mixed.Goals as goal

pub from_parts-requires : goal.from_parts-requires
from_parts-requires c = rw (c.in_ok-push.ensures, c.in_ok-parts.ensures.items) mixed_normal
