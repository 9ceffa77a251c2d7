-- The causes of stops.
use Rattle.std.specs.Prelude.{◌≡◌, ℕ, List, Result, Err, codes, string_bytes}
use Rattle.stan_model_config.specs.Files.{Neon, Stop, Missing, BadNeon, BadConfig, NoPaths}
use Rattle.stan_config.specs.declared.stop.ConfigStop.{ConfigStop}
use Rattle.stan_config.specs.declared.stop.ConfigStop.TheVariants as stops
use Rattle.stan_config.specs.Neon.{IsMeant}

-- A stop has its cause in what the configuration means, where the folder tells what it holds. `Tree` has it in the folder's faults, and memory may be wanting at any time.
abbrev pub IsCause : {A : Type 0} → Type 0 → Type 0 → (Neon → Result A Stop) → ConfigStop → Type 0
IsCause tells rose means (stops.Missing path) = tells → IsMeant means (Err (Missing (string_bytes path)))
IsCause tells rose means (stops.BadNeon path line) = tells → IsMeant means (Err (BadNeon (string_bytes path) line))
IsCause tells rose means (stops.BadConfig path key) = tells → IsMeant means (Err (BadConfig (string_bytes path) (string_bytes key)))
IsCause tells rose means stops.NoPaths = tells → IsMeant means (Err NoPaths)
IsCause tells rose means stops.Tree = rose
IsCause tells rose means stops.OutOfMemory = Unit {0}

-- The refusal of a file at its includes.
abbrev pub IsAtIncludes : List ℕ → ConfigStop → Type 0
IsAtIncludes file (stops.Missing path) = ⊥
IsAtIncludes file (stops.BadNeon path line) = ⊥
IsAtIncludes file (stops.BadConfig path key) = (string_bytes path ≡ file) × (string_bytes key ≡ codes "includes")
IsAtIncludes file stops.NoPaths = ⊥
IsAtIncludes file stops.Tree = ⊥
IsAtIncludes file stops.OutOfMemory = ⊥
