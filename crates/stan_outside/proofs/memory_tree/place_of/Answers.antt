use Rattle.stan_outside.proofs.MemoryLemmas.{some_place}
use Rattle.stan_outside.proofs.memory_tree.place_of.Goals as goal

pub unreachable-requires : goal.unreachable-requires
unreachable-requires c = some_place c.args.files.now c.args.path.now c.in-None.ensures.none c.requires.held
