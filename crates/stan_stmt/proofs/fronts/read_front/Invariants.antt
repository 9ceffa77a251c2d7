use Rattle.std.proofs.Common.{◌-◌, length}
use Rattle.stan_stmt.proofs.FrontLemmas.{SoFar}
use Rattle.stan_stmt.proofs.fronts.read_front.Given as goal

abbrev pub invariant-loop-tops : goal.invariant-loop-tops
invariant-loop-tops l = SoFar l.fn.source l.fn.tokens 1406 l.tops l.place

abbrev pub decreases-loop-tops : goal.decreases-loop-tops
decreases-loop-tops l = length l.fn.tokens - l.place
