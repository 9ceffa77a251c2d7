use Rattle.std.proofs.Common.{ap, sym, ◌∙◌, map}
use Rattle.stan_type_parts.specs.Parts.{part_of}
use Rattle.stan_type_normal.proofs.Placing.{map-insert}
use Rattle.stan_type_normal.proofs.place.add.Goals as goal

pub returns-in_ok-insert-in-Some : goal.returns-in_ok-insert-in-Some
returns-in_ok-insert-in-Some c =
    ap (map part_of) c.in_ok-insert-in-Some.ensures.items ∙ map-insert part_of c.args.out.now.items c.in-Some.i c.args.part ∙ sym (rw c.as_slice.ensures.value at c.in-Some.ensures.place)
