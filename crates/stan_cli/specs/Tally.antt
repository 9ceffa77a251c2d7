-- The numbers of a run.
use Rattle.std.specs.Prelude.{ℕ}
use Rattle.stan_cli.specs.declared.outcome.Tally.{Tally}

-- so many files, all of them analysed
abbrev pub tally_of : ℕ → Tally
tally_of number = record { files = number; reused = 0; analysed = number }
