-- The stages of a run, joined.
use Rattle.std.proofs.Common.{◌≡◌, ℕ, ◌≤◌, List, length, take, Some, None, Result, Ok, Err, sym, ap, subst, ◌∙◌, arith}
use Rattle.std.proofs.Common.{◌-◌, drop, map, length-drop}
use Rattle.std.specs.List.{zip}
use Rattle.std.proofs.lemmas.List.{length-map, take_all, drop-map}
use Rattle.std.proofs.lemmas.Slice.Zip.{length-zip, seconds-zip}
use Rattle.stan_reading_law.proofs.Unique.{one_readings}
use Rattle.stan_cli.specs.Raw.{raw_text}
use Rattle.stan_cli.specs.Report.{IsReport, faults_of_project}
use Rattle.stan_outside.specs.Contents.{Contents}
use Rattle.stan_cli.specs.Project.{chosen_files, paths_of, sources_of, most_files, excess_from, reads_until}
use Rattle.stan_outside.specs.Outside.{Rose, RoseBy}
use Rattle.stan_cli.specs.declared.run.Done.{Done}
use Rattle.stan_cli.specs.declared.refusal.Refusal.{Refusal}
use Rattle.stan_cli.specs.declared.refusal.Refusal.TheVariants.{BadWords, Limit, TreeFault, SinkFault, OutOfMemory}
use Rattle.stan_cli.specs.declared.refusal.Which.TheVariants.{Files, Bytes}
use Rattle.stan_cli.specs.Seen.{SeenTree, Seen}
use Rattle.stan_cli.specs.Sources.{IsReadRefusal, ReadsWithin}
use Rattle.stan_cli.specs.Run.{IsProjectRefusal, IsListed, IsUntouched, Comes, files_of, KeepsLimits}
use Rattle.stan_cli.proofs.SourceLemmas.{Rose-later, RoseBy-none, all_read}

-- a refusal to read, after the listing
module _ (old mid : SeenTree) (sources : List (List ℕ)) (files : List (List ℕ × List ℕ)) (never : old.never_fails → mid.never_fails) (le : old.faults ≤ mid.faults) (last : mid.faults_after ≡ old.faults_after)
    (tells : old.tells → mid.tells) (same : old.tells → sources ≡ sources_of files) (few : old.tells → length files ≤ most_files) (unread : mid.reads ≡ old.reads) (reads : mid.reads_after ≡ old.reads_after) where
  rose_from : (number : ℕ) → RoseBy number mid.reads mid.reads_after → RoseBy number old.reads old.reads_after
  rose_from number h = subst (λ after. RoseBy number old.reads after) reads (subst (λ before. RoseBy number before mid.reads_after) unread h)

  fault_from : Rose mid.faults mid.faults_after → Rose old.faults old.faults_after
  fault_from h = subst (λ after. Rose old.faults after) last (Rose-later old.faults mid.faults mid.faults_after le h)

  within_from : ReadsWithin sources mid → ReadsWithin (sources_of files) old
  within_from h told = let w = h (tells told) in (w.0, subst (λ ss. w.0 ≤ reads_until 0 ss) (same told) w.1, rose_from w.0 w.2)

  pub project_refusal-read : (refusal : Refusal) → IsReadRefusal mid sources refusal → IsProjectRefusal old files refusal
  project_refusal-read (BadWords part) h = h
  project_refusal-read (Limit Files counted) h = absurd h
  project_refusal-read (Limit Bytes counted) h = λ told.
      let both = h (tells told) in
      (few told, subst (λ ss. excess_from 0 ss ≡ Some counted) (same told) both.0, subst (λ ss. RoseBy (reads_until 0 ss) old.reads old.reads_after) (same told) (rose_from (reads_until 0 sources) both.1))
  project_refusal-read TreeFault h = (fault_from h.0, λ x. h.1 (never x), within_from h.2)
  project_refusal-read SinkFault h = h
  project_refusal-read OutOfMemory h = within_from h

-- a refusal before anything is written
pub comes-project : (words : List (List ℕ)) (shown : Seen) (refusal : Refusal) → IsListed words shown → IsUntouched shown.sink → IsProjectRefusal shown.tree (files_of words shown.tree.contents) refusal → Comes words shown (Err refusal)
comes-project words shown (BadWords part) listed kept h = absurd h
comes-project words shown (Limit Files counted) listed kept h = (listed, h, kept)
comes-project words shown (Limit Bytes counted) listed kept h = (listed, h, kept)
comes-project words shown TreeFault listed kept h = (listed, h, kept)
comes-project words shown SinkFault listed kept h = absurd h
comes-project words shown OutOfMemory listed kept h = (listed, h, kept)

-- each file once, where none is left
pub whole_read : (tree : SeenTree) (files : List (List ℕ × List ℕ)) → KeepsLimits files → RoseBy (length files) tree.reads tree.reads_after → (number : ℕ) × (number ≤ reads_until 0 (sources_of files)) × RoseBy number tree.reads tree.reads_after
whole_read tree files limits h = (length files, omega (arith, all_read 0 (sources_of files) limits.small, length-map files (λ (file : List ℕ × List ℕ). file.1)), h)

-- No file is read twice, whatever comes.
pub reads_within : (words : List (List ℕ)) (shown : Seen) (result : Result Done Refusal) → Comes words shown result → ReadsWithin (sources_of (files_of words shown.tree.contents)) shown.tree
reads_within words shown (Ok done) h = λ told. let reports = h.2 told in whole_read shown.tree (files_of words shown.tree.contents) reports.limits (subst (λ n. RoseBy n shown.tree.reads shown.tree.reads_after) reports.number h.1)
reads_within words shown (Err (BadWords part)) h = λ told. (0, omega arith, RoseBy-none shown.tree.reads shown.tree.reads_after h.1.not_read)
reads_within words shown (Err (Limit Files counted)) h = λ told. (0, omega arith, RoseBy-none shown.tree.reads shown.tree.reads_after h.1.0)
reads_within words shown (Err (Limit Bytes counted)) h = λ told. (reads_until 0 (sources_of (files_of words shown.tree.contents)), omega arith, (h.1 told).2)
reads_within words shown (Err TreeFault) h = h.1.2
reads_within words shown (Err SinkFault) h = λ told. whole_read shown.tree (files_of words shown.tree.contents) (h.2 told).0 (h.2 told).1
reads_within words shown (Err OutOfMemory) h = h.1

-- the number of files, by their paths
pub number : {X : Type 0} (xs : List X) (files : List (List ℕ × List ℕ)) (paths : List (List ℕ)) → paths ≡ paths_of files → length paths ≡ length xs → length xs ≤ most_files → length files ≤ most_files
number xs files paths e same few = omega (arith, ap length e, same, few, length-map files (λ (file : List ℕ × List ℕ). file.0))

-- the words after the first two
pub rest-map : {X : Type 0} (f : X → List ℕ) (xs : List X) → map f (take (length xs - 2) (drop 2 xs)) ≡ drop 2 (map f xs)
rest-map f xs =
    let short : length (drop 2 xs) ≤ length xs - 2 = omega (arith, length-drop 2 xs) in
    ap (map f) (take_all (length xs - 2) (drop 2 xs) short) ∙ sym (drop-map f 2 xs)

-- the files of the words, by what was read at their paths
pub read_files : {X : Type 0} (f : X → List ℕ) (words : List X) (contents : Contents) (files : List (List ℕ × List ℕ))
    → files ≡ chosen_files (map f (take (length words - 2) (drop 2 words))) contents → files ≡ files_of (map f words) contents
read_files f words contents files e = e ∙ ap (λ paths. chosen_files paths contents) (rest-map f words)

-- the report over what was read is that of the files
pub read_report : {X Y : Type 0} (f : X → List ℕ) (h : Y → List ℕ) (xs seen_xs : List X) (ys seen_ys : List Y) (files : List (List ℕ × List ℕ)) (text : List ℕ) (status : ℕ)
    → seen_xs ≡ xs → seen_ys ≡ ys → zip (map f xs) (map h ys) ≡ files → IsReport (zip (map f seen_xs) (map h seen_ys)) text status → IsReport files text status
read_report f h xs seen_xs ys seen_ys files text status same_xs same_ys e report =
    subst (λ those. IsReport those text status) ((λ i. zip (map f (same_xs i)) (map h (same_ys i))) ∙ e) report

-- files by their paths and their sources keep the limits
module _ (files : List (List ℕ × List ℕ)) {X Y : Type 0} (f : X → List ℕ) (h : Y → List ℕ) (xs : List X) (ys : List Y) (e : zip (map f xs) (map h ys) ≡ files) (few : length xs ≤ most_files) (each : length ys ≡ length xs) where
  each-map : length (map h ys) ≡ length (map f xs)
  each-map = length-map ys h ∙ each ∙ sym (length-map xs f)

  pub length-files : length xs ≡ length files
  length-files = omega (arith, ap length e, length-zip (map f xs) (map h ys), length-map xs f, length-map ys h, each)

  pub keeps_limits : excess_from 0 (map h ys) ≡ None → KeepsLimits files
  keeps_limits within = record {
    few = omega (arith, length-files);
    small = ap (excess_from 0) (sym (ap sources_of e) ∙ seconds-zip (map f xs) (map h ys) each-map) ∙ within;
  }

-- a project has one report
pub one_report : (files : List (List ℕ × List ℕ)) (text other : List ℕ) (status another : ℕ) → IsReport files text status → IsReport files other another → text ≡ other
one_report files text other status another r s =
    r.text_is ∙ ap (λ readings. raw_text (faults_of_project files readings)) (one_readings (sources_of files) r.readings s.readings r.are_read s.are_read) ∙ sym s.text_is

-- what is written finds the room that the report has
pub report_fits : (files : List (List ℕ × List ℕ)) (text built sent : List ℕ) (status another room : ℕ) → IsReport files text status → IsReport files built another → sent ≡ built → length text ≤ room → length sent ≤ room
report_fits files text built sent status another room report own same fits =
    subst (λ those. length those ≤ room) (one_report files text built status another report own ∙ sym same) fits
