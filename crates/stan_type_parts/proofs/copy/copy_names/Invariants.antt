use Rattle.std.proofs.Common.{◌≡◌, map, take}
use Rattle.stan_base.specs.Name.{name_bytes}
use Rattle.stan_type_parts.proofs.copy.copy_names.Given as goal

abbrev pub invariant-loop-name : goal.invariant-loop-name
invariant-loop-name l = map name_bytes l.copies.items ≡ map name_bytes (take l.name-index l.names)
