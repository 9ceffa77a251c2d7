use Rattle.std.proofs.Common.{◌≡◌, ◌++◌, map, take, string_bytes}
use Rattle.std.specs.List.{flat_map}
use Rattle.stan_analyst.specs.Verdict.{fault_of}
use Rattle.stan_cli.specs.Raw.{raw_line}
use Rattle.stan_cli.proofs.raw.push_faults.Given as goal

-- the lines of the faults so far were added
abbrev pub invariant-loop-fault : goal.invariant-loop-fault
invariant-loop-fault l = string_bytes l.text ≡ string_bytes l.initial.text ++ flat_map (raw_line l.path) (map fault_of (take l.fault-index l.faults))
