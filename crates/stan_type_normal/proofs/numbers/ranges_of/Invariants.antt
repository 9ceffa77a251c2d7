use Rattle.std.proofs.Common.{◌≡◌, [], map, take}
use Rattle.stan_model_types.specs.NormalForms.{put_ints}
use Rattle.stan_type_parts.specs.Parts.{part_of}
use Rattle.stan_type_normal.proofs.numbers.ranges_of.Given as goal

abbrev pub invariant-loop-part : goal.invariant-loop-part
invariant-loop-part l = l.ranges.items ≡ put_ints (map part_of (take l.part-index l.parts)) []
