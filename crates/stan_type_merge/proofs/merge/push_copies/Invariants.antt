use Rattle.std.proofs.Common.{◌≡◌, ◌++◌, map, take}
use Rattle.stan_type_parts.specs.Parts.{part_of}
use Rattle.stan_type_merge.proofs.merge.push_copies.Given as goal

abbrev pub invariant-loop-part : goal.invariant-loop-part
invariant-loop-part l = map part_of l.out.items ≡ map part_of l.initial.out.items ++ map part_of (take l.part-index l.parts)
