use Rattle.std.proofs.Common.{◌+◌, ◌*◌, map}
use Rattle.stan_model_types.specs.Types.{of_parts}
use Rattle.stan_model_types.specs.TypeLimits.{part_count, type_count}
use Rattle.stan_type_parts.specs.Parts.{part_of}
use Rattle.stan_type_filters.proofs.kept.+keeps.Given as goal

abbrev pub decreases-keeps : goal.decreases-keeps
decreases-keeps l = 2 * part_count (part_of l.part.now) + 1

abbrev pub decreases-keeps_some : goal.decreases-keeps_some
decreases-keeps_some l = 2 * type_count (of_parts (map part_of l.parts.now))
