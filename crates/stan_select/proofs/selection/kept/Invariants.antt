use Rattle.std.proofs.Common.{map, take, string_bytes}
use Rattle.stan_select.specs.Lookups.{AreKept}
use Rattle.stan_select.proofs.selection.kept.Given as goal

-- the kept ones of the files so far
abbrev pub invariant-loop-file : goal.invariant-loop-file
invariant-loop-file l = AreKept l.lookups (map string_bytes (take l.file-index l.listed)) (map string_bytes l.paths.items)
