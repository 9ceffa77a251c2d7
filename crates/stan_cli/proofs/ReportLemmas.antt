-- The table and the judged files, one source after another.
use Rattle.std.proofs.Common.{◌≡◌, ℕ, ◌+◌, ◌≤◌, ◌<◌, ltb, List, [], ◌∷◌, ◌++◌, take, length, get_or, Bool, true, false, cond, Some, None, refl, sym, ap, subst, ◌∙◌, arith, append_assoc}
use Rattle.std.specs.List.{sum_by}
use Rattle.std.proofs.lemmas.List.{take_more, append-nil}
use Rattle.std.proofs.lemmas.Bool.{ltb-false}
use Rattle.std.proofs.lemmas.List.Sums.{sum_by-cons}
use Rattle.stan_model_readings.specs.Reading.{Reading, IsReading, AreReadings}
use Rattle.stan_model_relations.specs.Exports.{exports_of, table_of}
use Rattle.stan_model_table.specs.Table.{Exported}
use Rattle.stan_model_verdict.specs.Fault.{Fault}
use Rattle.stan_model_verdict.specs.Faults.{faults_of}
use Rattle.stan_cli.specs.Project.{most_bytes, excess_from, sources_of}
use Rattle.stan_reading_law.proofs.Unique.{one_readings}
use Rattle.stan_cli.specs.Raw.{raw_text}
use Rattle.stan_cli.specs.Report.{IsReport, IsTable, AreJudged, judged, run_level, status_of}

-- ---- one more

pub AreReadings-push : (ss : List (List ℕ)) (rs : List Reading) (s : List ℕ) (r : Reading) → AreReadings ss rs → IsReading s r → AreReadings (ss ++ s ∷ []) (rs ++ r ∷ [])
AreReadings-push [] [] s r h new = (new, tt)
AreReadings-push [] (x ∷ rs) s r h new = absurd h
AreReadings-push (x ∷ ss) [] s r h new = absurd h
AreReadings-push (x ∷ ss) (y ∷ rs) s r h new = (h.0, AreReadings-push ss rs s r h.1 new)

table_of-push : (ss : List (List ℕ)) (rs : List Reading) (s : List ℕ) (r : Reading) → AreReadings ss rs → table_of (ss ++ s ∷ []) (rs ++ r ∷ []) ≡ table_of ss rs ++ exports_of s r
table_of-push [] [] s r h = append-nil (exports_of s r)
table_of-push [] (x ∷ rs) s r h = absurd h
table_of-push (x ∷ ss) [] s r h = absurd h
table_of-push (x ∷ ss) (y ∷ rs) s r h = ap (λ rest. exports_of x y ++ rest) (table_of-push ss rs s r h.1) ∙ sym (append_assoc (exports_of x y) (table_of ss rs) (exports_of s r))

judged-push : (table : List Exported) (files : List (List ℕ × List ℕ)) (rs : List Reading) (file : List ℕ × List ℕ) (r : Reading) → AreReadings (sources_of files) rs → judged table (files ++ file ∷ []) (rs ++ r ∷ []) ≡ judged table files rs ++ (file.0, faults_of table file.1 run_level r) ∷ []
judged-push table [] [] file r h = refl
judged-push table [] (x ∷ rs) file r h = absurd h
judged-push table (f ∷ files) [] file r h = absurd h
judged-push table (f ∷ files) (x ∷ rs) file r h = ap (λ rest. (f.0, faults_of table f.1 run_level x) ∷ rest) (judged-push table files rs file r h.1)

sources_of-push : (files : List (List ℕ × List ℕ)) (file : List ℕ × List ℕ) → sources_of (files ++ file ∷ []) ≡ sources_of files ++ file.1 ∷ []
sources_of-push [] file = refl
sources_of-push (f ∷ files) file = ap (λ rest. f.1 ∷ rest) (sources_of-push files file)

-- ---- steps of the loops

pub IsTable-more : (ss : List (List ℕ)) (i : ℕ) (d s : List ℕ) (table nodes : List Exported) → i < length ss → s ≡ get_or ss i d → IsTable (take i ss) table → ((r : Reading) × IsReading s r × (nodes ≡ exports_of s r)) → IsTable (take (i + 1) ss) (table ++ nodes)
IsTable-more ss i d s table nodes lt at so_far new =
    let more : take (i + 1) ss ≡ take i ss ++ s ∷ [] = take_more ss i d lt ∙ ap (λ x. take i ss ++ x ∷ []) (sym at) in (
      so_far.0 ++ new.0 ∷ [],
      subst (λ ts. AreReadings ts (so_far.0 ++ new.0 ∷ [])) (sym more) (AreReadings-push (take i ss) so_far.0 s new.0 so_far.1 new.1),
      (λ j. so_far.2 j ++ new.2 j) ∙ sym (table_of-push (take i ss) so_far.0 s new.0 so_far.1) ∙ ap (λ ts. table_of ts (so_far.0 ++ new.0 ∷ [])) (sym more),
    )

pub AreJudged-more : (table : List Exported) (files : List (List ℕ × List ℕ)) (i : ℕ) (d file : List ℕ × List ℕ) (faults : List (List ℕ × List Fault)) (fault : List ℕ × List Fault) → i < length files → file ≡ get_or files i d → AreJudged table (take i files) faults
    → ((r : Reading) × IsReading file.1 r × (fault ≡ (file.0, faults_of table file.1 run_level r))) → AreJudged table (take (i + 1) files) (faults ++ fault ∷ [])
AreJudged-more table files i d file faults fault lt at so_far new =
    let more : take (i + 1) files ≡ take i files ++ file ∷ [] = take_more files i d lt ∙ ap (λ x. take i files ++ x ∷ []) (sym at) in (
      so_far.0 ++ new.0 ∷ [],
      subst (λ ts. AreReadings ts (so_far.0 ++ new.0 ∷ [])) (sym (ap sources_of more ∙ sources_of-push (take i files) file)) (AreReadings-push (sources_of (take i files)) so_far.0 file.1 new.0 so_far.1 new.1),
      (λ j. so_far.2 j ++ new.2 j ∷ []) ∙ sym (judged-push table (take i files) so_far.0 file new.0 so_far.1) ∙ ap (λ ts. judged table ts (so_far.0 ++ new.0 ∷ [])) (sym more),
    )

-- ---- how many bytes

pub sum_by-within : (sum : ℕ) (ss : List (List ℕ)) → sum ≤ most_bytes → excess_from sum ss ≡ None → sum + sum_by length ss ≤ most_bytes
sum_by-within sum [] le e = omega arith
sum_by-within sum (s ∷ ss) le e =
    let next : (b : Bool) → ltb most_bytes (sum + length s) ≡ b → cond b (Some (sum + length s)) (excess_from (sum + length s) ss) ≡ None → sum + (length s + sum_by length ss) ≤ most_bytes =
    elim [
      | true ↦ λ over none. absurd (cc)
      | false ↦ λ fits none. let small : sum + length s ≤ most_bytes = ltb-false most_bytes (sum + length s) fits in omega (arith, sum_by-within (sum + length s) ss small none)
    ] in
    subst (λ n. sum + n ≤ most_bytes) (sym (sum_by-cons length s ss)) (next _ refl e)

-- ---- the report

pub report_is : (files : List (List ℕ × List ℕ)) (table : List Exported) (faults : List (List ℕ × List Fault)) (text : List ℕ) (status : ℕ) → IsTable (sources_of files) table → AreJudged table files faults → text ≡ raw_text faults → status ≡ status_of faults → IsReport files text status
report_is files table faults text status t j text_is status_is =
    let same : j.0 ≡ t.0 = one_readings (sources_of files) j.0 t.0 j.1 t.1 in
    let all : faults ≡ judged (table_of (sources_of files) t.0) files t.0 = j.2 ∙ (λ i. judged (t.2 i) files (same i)) in
    record { readings = t.0; are_read = t.1; text_is = text_is ∙ ap raw_text all; status_is = status_is ∙ ap status_of all }
