use Rattle.std.proofs.Common.{◌≡◌, map, take}
use Rattle.stan_analyst.specs.Verdict.{collected_of}
use Rattle.stan_analyst.proofs.verdict.copy_collected.Given as goal

abbrev pub invariant-loop-collected : goal.invariant-loop-collected
invariant-loop-collected l = map collected_of l.copies.items ≡ map collected_of (take l.collected-index l.all)
