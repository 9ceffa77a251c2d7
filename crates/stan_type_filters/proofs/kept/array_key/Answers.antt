use Rattle.stan_type_filters.proofs.Widest.{key_normal}
use Rattle.stan_type_filters.proofs.kept.array_key.Goals as goal

pub from_parts-requires : goal.from_parts-requires
from_parts-requires c = rw (c.in_ok-push-2.ensures, c.in_ok-push.ensures, c.in_ok-parts.ensures.items) key_normal
