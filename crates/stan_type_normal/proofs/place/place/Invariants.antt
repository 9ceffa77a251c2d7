use Rattle.std.proofs.Common.{◌≡◌, ◌++◌, drop, map, take}
use Rattle.stan_model_types.specs.NormalForms.{put}
use Rattle.stan_model_types.specs.TypeBytes.{part_order}
use Rattle.stan_type_parts.specs.Parts.{part_of}
use Rattle.stan_type_normal.proofs.place.place.Given as goal

abbrev pub invariant-loop-i : goal.invariant-loop-i
invariant-loop-i l = put part_order (part_of l.part) (map part_of l.out) ≡ take l.i (map part_of l.out) ++ put part_order (part_of l.part) (drop l.i (map part_of l.out))
