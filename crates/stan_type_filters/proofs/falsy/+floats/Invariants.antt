use Rattle.std.proofs.Common.{◌+◌, ◌*◌, map}
use Rattle.stan_model_types.specs.Types.{of_parts}
use Rattle.stan_model_types.specs.TypeLimits.{part_count, type_count}
use Rattle.stan_type_parts.specs.Parts.{part_of}
use Rattle.stan_type_filters.proofs.falsy.+floats.Given as goal

abbrev pub decreases-has_float : goal.decreases-has_float
decreases-has_float l = 2 * part_count (part_of l.part.now) + 1

abbrev pub decreases-has_some_float : goal.decreases-has_some_float
decreases-has_some_float l = 2 * type_count (of_parts (map part_of l.parts.now))
