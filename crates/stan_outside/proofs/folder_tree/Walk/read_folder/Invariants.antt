use Rattle.stan_outside.specs.Walk.{GoesOn}
use Rattle.stan_outside.proofs.folder_tree.Walk.read_folder.Given as goal

abbrev pub invariant-loop-entry : goal.invariant-loop-entry
invariant-loop-entry g l = (goal.iterator-loop-entry g).can_next l.entry-iterator × (goal.iterator-loop-entry g).is_finite l.entry-iterator × GoesOn l.fn.self l.self
