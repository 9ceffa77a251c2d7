use Rattle.std.proofs.Common.{◌≡◌, ℕ, List, take, string_bytes}
use Rattle.std.specs.Prelude.{map}
use Rattle.stan_config_paths.specs.TextSet.{has}
use Rattle.stan_model_config.specs.Faults.{is_among}
use Rattle.stan_config.proofs.project.set_of.Given as goal

-- The set has the paths so far.
abbrev pub invariant-loop-path : goal.invariant-loop-path
invariant-loop-path l = (text : List ℕ) → has l.set text ≡ is_among (map string_bytes (take l.path-index l.listed)) text
