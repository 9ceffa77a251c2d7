use Rattle.stan_type_normal.proofs.Placing.{name_here, name_not, name_behind}
use Rattle.stan_type_normal.proofs.meetings.place_name.Goals as goal

pub loop-i-preserved : goal.loop-i-preserved
loop-i-preserved c = name_behind c.args.name.now c.args.names.now c.loop-i.i c.index-names-i.result c.loop-i-test.true c.index-names-i.is c.loop-i.invariant (rw c.bytes.ensures at c.in-Greater.ensures)

pub returns-in-Less-clause-place : goal.returns-in-Less-clause-place
returns-in-Less-clause-place c = name_here c.args.name.now c.args.names.now c.loop-i.i c.index-names-i.result c.loop-i-test.true c.index-names-i.is c.loop-i.invariant (rw c.bytes.ensures at c.in-Less.ensures)

pub returns-in-Equal-clause-place : goal.returns-in-Equal-clause-place
returns-in-Equal-clause-place c = name_not c.args.name.now c.args.names.now c.loop-i.i c.index-names-i.result c.loop-i-test.true c.index-names-i.is c.loop-i.invariant (rw c.bytes.ensures at c.in-Equal.ensures)
