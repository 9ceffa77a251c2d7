use Rattle.std.proofs.Common.{◌≡◌, map, filter, take, string_bytes}
use Rattle.stan_paths.specs.Paths.{normal_path}
use Rattle.stan_select.specs.Lookups.{has_star}
use Rattle.stan_select.proofs.lookups.starred.Given as goal

-- the entries so far
abbrev pub invariant-loop-entry : goal.invariant-loop-entry
invariant-loop-entry l = map string_bytes l.patterns.items ≡ filter has_star (map normal_path (map string_bytes (take l.entry-index l.entries)))
