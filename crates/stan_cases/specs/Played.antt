-- What a case shows that is told to be right.
use Rattle.std.specs.Prelude.{◌≡◌, ◌↔◌, ◌-◌, ◌<◌, ◌≤◌, ℕ, List, [], ◌∷◌, ◌++◌, Some, None, IfSome, IsNone, IsSome, codes, decimal, length, map, replicate, string_bytes}
use Rattle.std.specs.FinMap as finite
use Rattle.std.specs.List.{flat_map, range_with_len}
use Rattle.stan_outside.specs.Contents.{Contents}
use Rattle.stan_cli.specs.Project.{sources_of, most_files, excess_from}
use Rattle.stan_case_text.specs.declared.case.Case.{Case}
use Rattle.stan_case_text.specs.declared.case.Files.{Files}
use Rattle.stan_case_text.specs.declared.case.Place.{Place}
use Rattle.stan_case_text.specs.declared.case.Place.TheVariants.{At, Numbered}
use Rattle.stan_cases.specs.Wanted.{IsAsWanted}
use Rattle.stan_cli.specs.declared.outcome.Outcome.{Outcome}
use Rattle.stan_cli.specs.declared.refusal.Refusal.TheVariants as refusals
use Rattle.stan_cli.specs.declared.refusal.Which.TheVariants as limited
use Rattle.stan_cli.specs.declared.words.WordsPart.{WordsPart}
use Rattle.stan_cli.specs.Run.{files_of, KeepsLimits, AddsReport, AddsFront}
use Rattle.stan_cli.specs.Tally.{tally_of}
use Rattle.stan_cli.specs.Words.{refused_part}
use Rattle.stan_outside.specs.Outside.{Rose}

-- ---- the folder

-- five digits, or more where it has more, and `.php`
abbrev pub numbered_path : ℕ → List ℕ
numbered_path number = replicate (5 - length (decimal number)) 48 ++ (decimal number ++ codes ".php")

abbrev pub files_at : Place → List ℕ → List (List ℕ × List ℕ)
files_at (At path) bytes = (string_bytes path, bytes) ∷ []
files_at (Numbered number) bytes = map (λ place. (numbered_path place, bytes)) (range_with_len 0 number)

-- each file by itself, with its bytes
abbrev pub single_files : List Files → List (List ℕ × List ℕ)
single_files all = flat_map (λ files. files_at files.place files.bytes.items) all

-- the folder that a case gives
abbrev pub folder_of : Case → Contents
folder_of case = finite.from_entries (single_files case.files.items)

-- ---- the run

-- What a run over a folder came to, what its sink held before it and after it, and how many calls of both then had failed, where none had before.
pub record IsRun (words : List (List ℕ)) (contents : Contents) (outcome : Outcome) (before written : List ℕ) (of_tree of_sink : ℕ) : Type 0 where
  pub report : IsNone outcome.refusal → AddsReport (files_of words contents) outcome.status before written
  pub tally : IsNone outcome.refusal → outcome.tally ≡ tally_of (length (files_of words contents))
  pub limits : IsNone outcome.refusal → KeepsLimits (files_of words contents)
  pub refused : IsSome outcome.refusal → (outcome.status ≡ 2) × (outcome.tally ≡ tally_of 0)
  pub bad_words : (part : WordsPart) → (outcome.refusal ≡ Some (refusals.BadWords part)) ↔ (refused_part words ≡ Some part)
  pub too_many_files : (counted : ℕ) → outcome.refusal ≡ Some (refusals.Limit limited.Files counted) → (counted ≡ length (files_of words contents)) × (most_files < counted)
  pub too_many_bytes : (counted : ℕ) → outcome.refusal ≡ Some (refusals.Limit limited.Bytes counted) → (length (files_of words contents) ≤ most_files) × (excess_from 0 (sources_of (files_of words contents)) ≡ Some counted)
  pub tree_fault : outcome.refusal ≡ Some refusals.TreeFault → Rose 0 of_tree
  pub sink_fault : outcome.refusal ≡ Some refusals.SinkFault → Rose 0 of_sink
  pub front : outcome.refusal ≡ Some refusals.SinkFault → AddsFront (files_of words contents) before written
  pub untouched : IsSome outcome.refusal → ¬ (outcome.refusal ≡ Some refusals.SinkFault) → written ≡ before
  pub complete : refused_part words ≡ None → KeepsLimits (files_of words contents) → ¬ (Rose 0 of_tree) → ¬ (Rose 0 of_sink) → IfSome outcome.refusal (λ refusal. refusal ≡ refusals.OutOfMemory)

-- The run of a case came to what the case wants.
pub record IsRight (case : Case) : Type 0 where
  pub outcome : Outcome
  pub of_tree : ℕ
  pub of_sink : ℕ
  pub written : List ℕ
  pub run : IsRun (map string_bytes case.words.items) (folder_of case) outcome [] written of_tree of_sink
  pub as_wanted : IsAsWanted case.wanted outcome of_tree of_sink written
