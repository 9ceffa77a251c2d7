-- What a run comes to: its report, or why there is none.
use Rattle.std.specs.Prelude.{◌≡◌, ◌<◌, ◌≤◌, ℕ, List, ◌++◌, length, take, drop, Some, None, Result, Ok, Err}
use Rattle.stan_outside.specs.Contents.{Contents}
use Rattle.stan_cli.specs.Project.{chosen_files, sources_of, most_files, excess_from, reads_until}
use Rattle.stan_outside.specs.Outside.{Rose, RoseBy}
use Rattle.stan_cli.specs.declared.refusal.Refusal.{Refusal}
use Rattle.stan_cli.specs.declared.refusal.Refusal.TheVariants.{BadWords, Limit, TreeFault, SinkFault, OutOfMemory}
use Rattle.stan_cli.specs.declared.refusal.Which.TheVariants.{Files, Bytes}
use Rattle.stan_cli.specs.declared.run.Done.{Done}
use Rattle.stan_cli.specs.Seen.{SeenTree, SeenSink, Seen}
use Rattle.stan_cli.specs.Sources.{ReadsWithin}
use Rattle.stan_cli.specs.Words.{refused_part}
use Rattle.stan_cli.specs.Report.{IsReport}

-- the paths among the accepted words
abbrev pub paths_among : List (List ℕ) → List (List ℕ)
paths_among words = drop 2 words

-- the files of a folder that accepted words choose
abbrev pub files_of : List (List ℕ) → Contents → List (List ℕ × List ℕ)
files_of words contents = chosen_files (paths_among words) contents

-- no more files and no more bytes than may be
pub record KeepsLimits (files : List (List ℕ × List ℕ)) : Type 0 where
  pub few : length files ≤ most_files
  pub small : excess_from 0 (sources_of files) ≡ None

-- the whole report of the files was added
pub record AddsReport (files : List (List ℕ × List ℕ)) (status : ℕ) (old new : List ℕ) : Type 0 where
  pub text : List ℕ
  pub report : IsReport files text status
  pub added : new ≡ old ++ text

-- the status of the report of the files
abbrev pub HasStatus : List (List ℕ × List ℕ) → ℕ → Type 0
HasStatus files status = (text : List ℕ) × IsReport files text status

-- a front of the report of the files was added
pub record AddsFront (files : List (List ℕ × List ℕ)) (old new : List ℕ) : Type 0 where
  pub text : List ℕ
  pub status : ℕ
  pub report : IsReport files text status
  pub count : ℕ
  pub added : new ≡ old ++ take count text

-- ---- the folder

-- Why the files were not read: too many of them, too many bytes, or the folder failed.
abbrev pub IsProjectRefusal : SeenTree → List (List ℕ × List ℕ) → Refusal → Type 0
IsProjectRefusal tree files (BadWords part) = ⊥
IsProjectRefusal tree files (Limit Files counted) = (tree.reads_after ≡ tree.reads) × (tree.tells → (counted ≡ length files) × (most_files < length files))
IsProjectRefusal tree files (Limit Bytes counted) = tree.tells → (length files ≤ most_files) × (excess_from 0 (sources_of files) ≡ Some counted) × RoseBy (reads_until 0 (sources_of files)) tree.reads tree.reads_after
IsProjectRefusal tree files TreeFault = Rose tree.faults tree.faults_after × ¬ tree.never_fails × ReadsWithin (sources_of files) tree
IsProjectRefusal tree files SinkFault = ⊥
IsProjectRefusal tree files OutOfMemory = ReadsWithin (sources_of files) tree

-- ---- the whole run

-- The files were read once each, and the sink gained the report of them, as far as it tells.
pub record Reports (files : List (List ℕ × List ℕ)) (shown : Seen) (done : Done) : Type 0 where
  pub number : done.files ≡ length files
  pub limits : KeepsLimits files
  pub text : List ℕ
  pub report : IsReport files text done.status
  pub added : shown.sink.tells → shown.sink.written_after ≡ shown.sink.written ++ text

-- Nothing was asked of the folder.
pub record IsUnasked (tree : SeenTree) : Type 0 where
  pub not_listed : tree.listings_after ≡ tree.listings
  pub not_read : tree.reads_after ≡ tree.reads

abbrev pub IsUntouched : SeenSink → Type 0
IsUntouched sink = sink.tells → sink.written_after ≡ sink.written

module _ (words : List (List ℕ)) (shown : Seen) where
  -- the files that the words choose
  abbrev pub chosen : List (List ℕ × List ℕ)
  chosen = files_of words shown.tree.contents

  -- The words are accepted, and the folder was listed once.
  abbrev pub IsListed : Type 0
  IsListed = (refused_part words ≡ None) × RoseBy 1 shown.tree.listings shown.tree.listings_after

  -- What comes of the words, the folder and the sink, as far as these tell.
  abbrev pub Comes : Result Done Refusal → Type 0
  Comes (Ok done) = IsListed × RoseBy done.files shown.tree.reads shown.tree.reads_after × (shown.tree.tells → Reports chosen shown done)
  Comes (Err (BadWords part)) = (refused_part words ≡ Some part) × IsUnasked shown.tree × IsUntouched shown.sink
  Comes (Err (Limit Files counted)) = IsListed × IsProjectRefusal shown.tree chosen (Limit Files counted) × IsUntouched shown.sink
  Comes (Err (Limit Bytes counted)) = IsListed × IsProjectRefusal shown.tree chosen (Limit Bytes counted) × IsUntouched shown.sink
  Comes (Err TreeFault) = IsListed × IsProjectRefusal shown.tree chosen TreeFault × IsUntouched shown.sink
  Comes (Err SinkFault) = IsListed × Rose shown.sink.faults shown.sink.faults_after × (shown.tree.tells → KeepsLimits chosen × RoseBy (length chosen) shown.tree.reads shown.tree.reads_after
      × (shown.sink.tells → AddsFront chosen shown.sink.written shown.sink.written_after))
  Comes (Err OutOfMemory) = IsListed × ReadsWithin (sources_of chosen) shown.tree × IsUntouched shown.sink
