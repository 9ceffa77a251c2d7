use Rattle.std.proofs.Common.{◌≡◌, map, take}
use Rattle.stan_base.specs.Name.{name_bytes}
use Rattle.stan_type_order.proofs.fields.compare_all_names.Given as goal

abbrev pub invariant-loop-i : goal.invariant-loop-i
invariant-loop-i l = map name_bytes (take l.i l.a) ≡ map name_bytes (take l.i l.b)
