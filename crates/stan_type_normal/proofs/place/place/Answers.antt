use Rattle.stan_type_parts.specs.Parts.{part_of}
use Rattle.stan_type_normal.proofs.Placing.{part_here, part_not, part_behind, part_last}
use Rattle.stan_type_normal.proofs.place.place.Goals as goal

pub loop-i-preserved : goal.loop-i-preserved
loop-i-preserved c = part_behind (part_of c.args.part.now) c.args.out.now c.loop-i.i c.index-out-i.result c.loop-i-test.true c.index-out-i.is c.loop-i.invariant c.in-Greater.ensures.decides

pub returns-in-Less-clause-place : goal.returns-in-Less-clause-place
returns-in-Less-clause-place c = part_here (part_of c.args.part.now) c.args.out.now c.loop-i.i c.index-out-i.result c.loop-i-test.true c.index-out-i.is c.loop-i.invariant c.in-Less.ensures.decides

pub returns-in-Equal-clause-place : goal.returns-in-Equal-clause-place
returns-in-Equal-clause-place c = part_not (part_of c.args.part.now) c.args.out.now c.loop-i.i c.index-out-i.result c.loop-i-test.true c.index-out-i.is c.loop-i.invariant c.in-Equal.ensures.decides

pub returns-clause-place : goal.returns-clause-place
returns-clause-place c = part_last (part_of c.args.part.now) c.args.out.now c.loop-i.i c.loop-i-test.false c.loop-i.invariant
