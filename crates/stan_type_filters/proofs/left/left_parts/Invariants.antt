use Rattle.std.proofs.Common.{◌≡◌, map, take}
use Rattle.std.specs.List.{flat_map}
use Rattle.stan_model_types.specs.TypeFilters.{left}
use Rattle.stan_type_parts.specs.Parts.{part_of}
use Rattle.stan_type_filters.specs.Filters.{filter_of}
use Rattle.stan_type_filters.proofs.left.left_parts.Given as goal

abbrev pub invariant-loop-part : goal.invariant-loop-part
invariant-loop-part l = map part_of l.left.items ≡ flat_map (left (filter_of l.filter)) (map part_of (take l.part-index l.parts))
