-- Why a text was not read.
use Rattle.std.specs.Prelude.{ℕ, List}
use Rattle.stan_neon.specs.declared.document.NeonStop.{NeonStop}
use Rattle.stan_neon.specs.declared.document.NeonStop.TheVariants as stops
use Rattle.stan_neon.specs.Texts.{IsBadAt}

-- A text is bad at the named line. Memory may be wanting at any time.
abbrev pub IsCause : List ℕ → NeonStop → Type 0
IsCause text (stops.Bad line) = IsBadAt text line
IsCause text stops.OutOfMemory = Unit {0}
