use Rattle.std.proofs.Common.{◌≡◌, map, take}
use Rattle.stan_analyst.specs.Verdict.{fault_of}
use Rattle.stan_analyst.proofs.verdict.copy_faults.Given as goal

abbrev pub invariant-loop-fault : goal.invariant-loop-fault
invariant-loop-fault l = map fault_of l.copies.items ≡ map fault_of (take l.fault-index l.faults)
