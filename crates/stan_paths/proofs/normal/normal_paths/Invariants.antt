use Rattle.std.proofs.Common.{◌≡◌, map, take, string_bytes}
use Rattle.stan_paths.specs.Paths.{normal_path}
use Rattle.stan_paths.proofs.normal.normal_paths.Given as goal

-- the normal forms of the paths so far
abbrev pub invariant-loop-path : goal.invariant-loop-path
invariant-loop-path l = map string_bytes l.normal.items ≡ map normal_path (map string_bytes (take l.path-index l.paths))
