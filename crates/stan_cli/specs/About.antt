-- The line about a run.
use Rattle.std.specs.Prelude.{ℕ, List, ◌++◌, codes, decimal, Option, Some, None}
use Rattle.stan_cli.specs.declared.outcome.Outcome.{Outcome}
use Rattle.stan_cli.specs.declared.outcome.Tally.{Tally}
use Rattle.stan_cli.specs.declared.refusal.Refusal.{Refusal}
use Rattle.stan_cli.specs.Refusal.{refusal_text}

-- how many files there were
abbrev pub tally_line : Tally → List ℕ
tally_line tally = codes "files " ++ (decimal tally.files ++ (codes ", reused " ++ (decimal tally.reused ++ (codes ", analysed " ++ decimal tally.analysed))))

-- why it was refused, or how many files there were
abbrev pub about_run : Option Refusal → Tally → List ℕ
about_run (Some refusal) tally = codes "stan: " ++ refusal_text refusal
about_run None tally = tally_line tally

-- what is printed of an outcome
abbrev pub about : Outcome → List ℕ
about outcome = about_run outcome.refusal outcome.tally
