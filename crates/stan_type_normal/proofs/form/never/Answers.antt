use Rattle.std.proofs.Common.{[]}
use Rattle.stan_type_normal.proofs.Normals.{no_parts}
use Rattle.stan_type_normal.proofs.form.never.Goals as goal

pub from_parts-requires : goal.from_parts-requires
from_parts-requires c = rw c.new.ensures.items (1, ([], no_parts))
