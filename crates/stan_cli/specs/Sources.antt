-- What reading a folder gives, and why it may be refused.
use Rattle.std.specs.Prelude.{◌≡◌, ◌↔◌, ◌<◌, ◌≤◌, ◌+◌, ℕ, List, [], take, Some, IsSome, unwrap_or}
use Rattle.std.specs.List.{Contains}
use Rattle.std.specs.FinMap as finite
use Rattle.std.specs.declared.sync.Arc.{Arc}
use Rattle.std.specs.declared.alloc.Global.{Global}
use Rattle.stan_model_readings.specs.Reading.{largest_source}
use Rattle.stan_outside.specs.Contents.{Contents}
use Rattle.stan_cli.specs.Project.{most_files, excess_from, reads_until}
use Rattle.stan_cli.specs.Seen.{SeenTree}
use Rattle.stan_outside.specs.Outside.{Rose, RoseBy}
use Rattle.stan_table.specs.declared.source.Source.{Source}
use Rattle.stan_cli.specs.declared.refusal.Refusal.{Refusal}
use Rattle.stan_cli.specs.declared.refusal.Refusal.TheVariants.{BadWords, Limit, TreeFault, SinkFault, OutOfMemory}
use Rattle.stan_cli.specs.declared.refusal.Which.TheVariants.{Files, Bytes}

-- the bytes of a shared source
abbrev pub source_bytes : Arc Source Global → List ℕ
source_bytes source = source.value.bytes.items

-- what is read at a path: one byte more than a file may have
abbrev pub source_at : Contents → List ℕ → List ℕ
source_at contents path = take (largest_source + 1) (unwrap_or (finite.get contents path) [])

-- something stands at each path
abbrev pub AreHeld : Contents → List (List ℕ) → Type 0
AreHeld contents paths = (path : List ℕ) → Contains paths path → IsSome (finite.get contents path)

-- A folder tells what it told, and its faults do not fall.
pub record KeepsTree {T : Type 0} (tells : T → Type 0) (contents : T → Contents) (faults : T → ℕ) (never_fails : T → Type 0) (old new : T) : Type 0 where
  pub tells_alike : tells old ↔ tells new
  pub same_contents : contents new ≡ contents old
  pub no_fewer_faults : faults old ≤ faults new
  pub same_faults : never_fails old → faults new ≡ faults old
  pub still_never_fails : never_fails old → never_fails new

-- No file was read twice, and none behind the sum that passes the limit.
abbrev pub ReadsWithin : List (List ℕ) → SeenTree → Type 0
ReadsWithin sources tree = tree.tells → (number : ℕ) × (number ≤ reads_until 0 sources) × RoseBy number tree.reads tree.reads_after

-- Of the folder alone: it failed, and the count of its faults rose. Want of memory is free.
abbrev pub IsTreeRefusal : SeenTree → Refusal → Type 0
IsTreeRefusal tree (BadWords part) = ⊥
IsTreeRefusal tree (Limit which counted) = ⊥
IsTreeRefusal tree TreeFault = Rose tree.faults tree.faults_after × ¬ tree.never_fails
IsTreeRefusal tree SinkFault = ⊥
IsTreeRefusal tree OutOfMemory = Unit {0}

-- Listing is refused besides where more files are chosen than may be.
abbrev pub IsListRefusal : SeenTree → ℕ → Refusal → Type 0
IsListRefusal tree number (Limit Files counted) = tree.tells → (counted ≡ number) × (most_files < number)
IsListRefusal tree number (Limit Bytes counted) = ⊥
IsListRefusal tree number (BadWords part) = ⊥
IsListRefusal tree number TreeFault = Rose tree.faults tree.faults_after × ¬ tree.never_fails
IsListRefusal tree number SinkFault = ⊥
IsListRefusal tree number OutOfMemory = Unit {0}

-- Reading is refused besides where the bytes of all files together are more than may be. Then none is read behind that sum.
abbrev pub IsReadRefusal : SeenTree → List (List ℕ) → Refusal → Type 0
IsReadRefusal tree sources (Limit Files counted) = ⊥
IsReadRefusal tree sources (Limit Bytes counted) = tree.tells → (excess_from 0 sources ≡ Some counted) × RoseBy (reads_until 0 sources) tree.reads tree.reads_after
IsReadRefusal tree sources (BadWords part) = ⊥
IsReadRefusal tree sources TreeFault = Rose tree.faults tree.faults_after × ¬ tree.never_fails × ReadsWithin sources tree
IsReadRefusal tree sources SinkFault = ⊥
IsReadRefusal tree sources OutOfMemory = ReadsWithin sources tree
