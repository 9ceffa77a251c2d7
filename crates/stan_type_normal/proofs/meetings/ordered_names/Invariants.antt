use Rattle.std.proofs.Common.{◌≡◌, map, take}
use Rattle.stan_base.specs.Name.{name_bytes}
use Rattle.stan_model_types.specs.NormalForms.{ordered_names}
use Rattle.stan_type_normal.proofs.meetings.ordered_names.Given as goal

abbrev pub invariant-loop-name : goal.invariant-loop-name
invariant-loop-name l = map name_bytes l.ordered.items ≡ ordered_names (map name_bytes (take l.name-index l.names))
