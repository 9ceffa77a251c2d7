use Rattle.std.proofs.Common.{◌+◌, ◌*◌, map}
use Rattle.stan_model_types.specs.Types.{of_parts}
use Rattle.stan_model_types.specs.TypeLimits.{part_count, type_count}
use Rattle.stan_type_parts.specs.Parts.{part_of}
use Rattle.stan_type_filters.proofs.falsy.+holds.Given as goal

abbrev pub decreases-may_hold : goal.decreases-may_hold
decreases-may_hold l = 2 * part_count (part_of l.part.now) + 1

abbrev pub decreases-may_hold_some : goal.decreases-may_hold_some
decreases-may_hold_some l = 2 * type_count (of_parts (map part_of l.parts.now))
