-- The faults of a file as the definitions see them.
use Rattle.std.specs.Prelude.{ℕ, List, map, string_bytes}
use Rattle.stan_model_verdict.specs.Fault as faults
use Rattle.stan_analyst.specs.Verdict.{fault_of}
use Rattle.stan_analyst.specs.declared.verdict.FileFaults.{FileFaults}

-- a path with its faults
abbrev pub file_of : FileFaults → List ℕ × List faults.Fault
file_of file = (string_bytes file.path, map fault_of file.faults.items)
