-- What a case wants of a run.
use Rattle.std.specs.Prelude.{◌≡◌, ℕ, List, ◌++◌, IfSome, string_bytes, decimal, codes}
use Rattle.stan_case_text.specs.declared.case.Wanted.{Wanted}
use Rattle.stan_cli.specs.declared.outcome.Outcome.{Outcome}
use Rattle.stan_cli.specs.declared.outcome.Tally.{Tally}
use Rattle.stan_cli.specs.About.{about}

-- the three numbers, one blank between them
abbrev pub tally_text : Tally → List ℕ
tally_text tally = decimal tally.files ++ (codes " " ++ (decimal tally.reused ++ (codes " " ++ decimal tally.analysed)))

-- The run came to it, so many calls of the folder and of the sink failed, and this was written.
pub record IsAsWanted (wanted : Wanted) (outcome : Outcome) (of_tree of_sink : ℕ) (written : List ℕ) : Type 0 where
  pub status : decimal outcome.status ≡ string_bytes wanted.status
  pub tally : tally_text outcome.tally ≡ string_bytes wanted.tally
  pub about_is : about outcome ≡ string_bytes wanted.about
  pub output : written ≡ wanted.output.items
  pub tree_faults : IfSome wanted.tree_faults (λ text. decimal of_tree ≡ string_bytes text)
  pub sink_faults : IfSome wanted.sink_faults (λ text. decimal of_sink ≡ string_bytes text)
