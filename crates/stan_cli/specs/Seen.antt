-- What the outside shows before a call and after it.
use Rattle.std.specs.Prelude.{ℕ, List}
use Rattle.stan_outside.specs.Contents.{Contents}

-- A folder: whether it tells what it holds and what that is, whether none of its calls fails, how often it failed, how often it was listed,
-- and how often a file was read.
pub record SeenTree : Type 1 where
  pub tells : Type 0
  pub contents : Contents
  pub never_fails : Type 0
  pub faults : ℕ
  pub faults_after : ℕ
  pub listings : ℕ
  pub listings_after : ℕ
  pub reads : ℕ
  pub reads_after : ℕ

-- A sink: whether it tells what was written and what that is, and how often it failed.
pub record SeenSink : Type 1 where
  pub tells : Type 0
  pub written : List ℕ
  pub written_after : List ℕ
  pub faults : ℕ
  pub faults_after : ℕ

pub record Seen : Type 1 where
  pub tree : SeenTree
  pub sink : SeenSink

abbrev pub seen_tree : {T : Type 0} → (T → Type 0) → (T → Contents) → (T → Type 0) → (T → ℕ) → (T → ℕ) → (T → ℕ) → T → T → SeenTree
seen_tree tells contents never_fails faults listings reads old new = record {
  tells = tells old;
  contents = contents old;
  never_fails = never_fails old;
  faults = faults old;
  faults_after = faults new;
  listings = listings old;
  listings_after = listings new;
  reads = reads old;
  reads_after = reads new;
}

abbrev pub seen_sink : {K : Type 0} → (K → Type 0) → (K → List ℕ) → (K → ℕ) → K → K → SeenSink
seen_sink tells written faults old new = record { tells = tells old; written = written old; written_after = written new; faults = faults old; faults_after = faults new }

abbrev pub seen : SeenTree → SeenSink → Seen
seen tree sink = record { tree = tree; sink = sink }
