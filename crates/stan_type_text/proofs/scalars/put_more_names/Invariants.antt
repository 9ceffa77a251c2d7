use Rattle.std.proofs.Common.{◌≡◌, ◌++◌, map, drop, string_bytes}
use Rattle.stan_base.specs.Name.{name_bytes}
use Rattle.stan_model_types.specs.TypeTexts.{more_names}
use Rattle.stan_type_text.proofs.scalars.put_more_names.Given as goal

abbrev pub invariant-loop-name : goal.invariant-loop-name
invariant-loop-name l = string_bytes l.out ++ more_names (map name_bytes (drop l.name-index l.names)) ≡ string_bytes l.initial.out ++ more_names (map name_bytes l.names)
