use Rattle.std.proofs.Common.{◌≡◌, ◌||◌, ℕ, List, map, take, string_bytes}
use Rattle.stan_paths.specs.Paths.{normal_path}
use Rattle.stan_select.specs.Names.{has, is_among}
use Rattle.stan_select.proofs.names.add_names.Given as goal

-- the paths so far are added
abbrev pub invariant-loop-path : goal.invariant-loop-path
invariant-loop-path l = (path : List ℕ) → has l.names path ≡ (has l.fn.names path || is_among (map normal_path (map string_bytes (take l.path-index l.paths))) path)
