-- The choice of files, from the steps that make it.
use Rattle.std.proofs.Common.{◌≡◌, ℕ, ◌<◌, Bool, true, false, List, [], ◌∷◌, ◌++◌, length, get_or, refl, sym, ap, subst, ◌∙◌, inl, inr, ⊎_elim, arith}
use Rattle.std.specs.Prelude.{◌↔◌, IsTrue}
use Rattle.std.specs.List.{Contains}
use Rattle.std.proofs.lemmas.Bool.{cases_Bool, false≢true}
use Rattle.std.proofs.lemmas.List.{map-append, length-map, get_or-map, same_lists}
use Rattle.std.proofs.lemmas.List.Elements.{Contains-append_left, Contains-push, Contains-push_cases, Contains-get_or}
use Rattle.std.specs.Cmp.Lexicographic.{nat_list_cmp_total}
use Rattle.stan_base.proofs.SortLemmas.{Contains-map, item_from_Contains-map}
use Rattle.stan_base.proofs.Orders.{strictly_sorted_unique}
use Rattle.stan_settings.specs.declared.Config.{Config}
use Rattle.stan_select.specs.declared.lookups.Lookups.{Lookups}
use Rattle.stan_select.specs.Choice.{normal_paths, IsChosenBy, IsAnalysed, IsScanned}
use Rattle.stan_select.specs.Selection.{Chosen, paths_of, IsSelection}
use Rattle.stan_select.specs.Names.{HasChooser}
use Rattle.stan_select.specs.Lookups.{AreLookups, IsKept, AreKept, AreMarked}
use Rattle.stan_paths.specs.Paths.{IsInOrder}
use Rattle.stan_paths.proofs.ListLemmas.{path_cmp-IsAntisymmetric}
use Rattle.stan_select.proofs.NameLemmas.{IsChosenBy-from_names, names_choose}
use Rattle.stan_select.proofs.LookupLemmas.{IsTakenAwayBy-from_lookups, lookups_exclude}

-- ---- one file more

module _ (lookups : Lookups) (listed paths : List (List ℕ)) (file : List ℕ) (are : AreKept lookups listed paths) where
  pub AreKept-kept : IsKept lookups file → AreKept lookups (listed ++ file ∷ []) (paths ++ file ∷ [])
  AreKept-kept keeps = λ f. (
    λ h.
        ⊎_elim
        (λ old. let r = (are f).0 old in (Contains-append_left listed (file ∷ []) f r.0, r.1))
        (λ e. (subst (Contains (listed ++ file ∷ [])) e (Contains-push listed file), subst (IsKept lookups) e keeps))
        (Contains-push_cases paths file f h),
    λ h.
        ⊎_elim
        (λ old. Contains-append_left paths (file ∷ []) f ((are f).1 (old, h.1)))
        (λ e. subst (Contains (paths ++ file ∷ [])) e (Contains-push paths file))
        (Contains-push_cases listed file f h.0),
  )

  pub AreKept-left : (IsKept lookups file → ⊥) → AreKept lookups (listed ++ file ∷ []) paths
  AreKept-left fails = λ f. (
    λ h. let r = (are f).0 h in (Contains-append_left listed (file ∷ []) f r.0, r.1),
    λ h.
        ⊎_elim
        (λ old. (are f).1 (old, h.1))
        (λ e. absurd (fails (subst (IsKept lookups) (sym e) h.1)))
        (Contains-push_cases listed file f h.0),
  )

pub AreMarked-push : (lookups : Lookups) (paths : List (List ℕ)) (files : List Chosen) (file : List ℕ) (mark : Bool) → IsTrue mark ↔ HasChooser lookups.analysed file → AreMarked lookups paths files → AreMarked lookups (paths ++ file ∷ []) (files ++ (file, mark) ∷ [])
AreMarked-push lookups paths files file mark is are = record {
  same = map-append (λ f. f.0) files ((file, mark) ∷ []) ∙ ap (λ ps. ps ++ file ∷ []) are.same;
  marks = λ f m h.
      ⊎_elim
      (λ old. are.marks f m old)
      (λ e. let Is : Chosen → Type 0 = λ x. IsTrue x.1 ↔ HasChooser lookups.analysed x.0 in subst Is e is)
      (Contains-push_cases files (file, mark) (f, m) h);
}

-- ---- a file and its mark

module _ (files : List Chosen) where
  path_of_file : (file : List ℕ) (mark : Bool) → Contains files (file, mark) → Contains (paths_of files) file
  path_of_file file mark h = Contains-map (λ f. f.0) files (file, mark) h

  file_of_path : (file : List ℕ) → Contains (paths_of files) file → (mark : Bool) × Contains files (file, mark)
  file_of_path file h =
      let x = item_from_Contains-map (λ f. f.0) files file h in
      (x.0.1, subst (λ path. Contains files (path, x.0.1)) x.2 x.1)

-- ---- all steps

module _ (config : Config) (lookups : Lookups) (listed found ordered : List (List ℕ)) (files : List Chosen)
    (are : AreLookups config lookups) (kept : AreKept lookups listed found) (order : IsInOrder found ordered) (marked : AreMarked lookups ordered files) where
  analysed_chooses : (file : List ℕ) → HasChooser lookups.analysed file → IsChosenBy (normal_paths config.paths) file
  analysed_chooses file h = IsChosenBy-from_names _ lookups.analysed are.analysed file h

  -- a file of the answer is listed and kept
  from_files : (file : List ℕ) (mark : Bool) → Contains files (file, mark) → Contains listed file × IsKept lookups file
  from_files file mark h = (kept file).0 (order.adds_none file (subst (λ ps. Contains ps file) marked.same (path_of_file files file mark h)))

  into_files : (file : List ℕ) → Contains listed file → IsKept lookups file → (mark : Bool) × Contains files (file, mark)
  into_files file h keeps = file_of_path files file (subst (λ ps. Contains ps file) (sym marked.same) (order.keeps file ((kept file).1 (h, keeps))))

  analysed_is_kept : (file : List ℕ) → IsAnalysed config file → IsKept lookups file
  analysed_is_kept file h = record {
    chosen = inl (names_choose _ lookups.analysed are.analysed file h.chosen);
    not_excluded = λ out. h.kept (IsTakenAwayBy-from_lookups config lookups are file out);
  }

  scanned_is_kept : (file : List ℕ) → IsScanned config file → IsKept lookups file
  scanned_is_kept file h = record {
    chosen = inr (names_choose _ lookups.scanned are.scanned file h.chosen);
    not_excluded = λ out. h.kept (IsTakenAwayBy-from_lookups config lookups are file out);
  }

  is_analysed : (file : List ℕ) → IsKept lookups file → HasChooser lookups.analysed file → IsAnalysed config file
  is_analysed file keeps chooses = record {
    chosen = analysed_chooses file chooses;
    kept = λ out. keeps.not_excluded (lookups_exclude config lookups are file out);
  }

  marked_true : (file : List ℕ) (mark : Bool) → Contains files (file, mark) → IsAnalysed config file → Contains files (file, true)
  marked_true file mark there h = subst (λ m. Contains files (file, m)) ((marked.marks file mark there).1 (names_choose _ lookups.analysed are.analysed file h.chosen)) there

  marked_false : (file : List ℕ) (mark : Bool) → Contains files (file, mark) → IsScanned config file → Contains files (file, false)
  marked_false file mark there h =
      ⊎_elim
      (λ yes. absurd (h.not_analysed (is_analysed file (from_files file mark there).1 ((marked.marks file mark there).0 yes))))
      (λ no. subst (λ m. Contains files (file, m)) no there)
      (cases_Bool mark)

  pub selection_is : IsSelection config listed files
  selection_is = record {
    rising = rw marked.same (order.rising);
    analysed = λ file. (
      λ h. let from = from_files file true h in (from.0, is_analysed file from.1 ((marked.marks file true h).0 refl)),
      λ h. let there = into_files file h.0 (analysed_is_kept file h.1) in marked_true file there.0 there.1 h.1,
    );
    scanned = λ file. (
      λ h.
          let from = from_files file false h in
          let no : HasChooser lookups.analysed file → ⊥ = λ chooses. false≢true ((marked.marks file false h).1 chooses) in (
            from.0,
            record {
              chosen = ⊎_elim (λ chooses. absurd (no chooses)) (λ chooses. IsChosenBy-from_names _ lookups.scanned are.scanned file chooses) from.1.chosen;
              kept = λ out. from.1.not_excluded (lookups_exclude config lookups are file out);
              not_analysed = λ is. no (names_choose _ lookups.analysed are.analysed file is.chosen);
            },
          ),
      λ h. let there = into_files file h.0 (scanned_is_kept file h.1) in marked_false file there.0 there.1 h.1,
    );
  }

-- ---- one answer

module _ (config : Config) (listed others : List (List ℕ)) (files other_files : List Chosen) where
  -- a path of one answer, with its mark, is one of the other
  file_alike : ((file : List ℕ) → Contains listed file → Contains others file) → IsSelection config listed files → IsSelection config others other_files → (file : List ℕ) (mark : Bool) → Contains files (file, mark) → Contains other_files (file, mark)
  file_alike same one other file true h = let r = (one.analysed file).0 h in (other.analysed file).1 (same file r.0, r.1)
  file_alike same one other file false h = let r = (one.scanned file).0 h in (other.scanned file).1 (same file r.0, r.1)

pub path_alike : (config : Config) (listed others : List (List ℕ)) (files other_files : List Chosen) → ((file : List ℕ) → Contains listed file → Contains others file) → IsSelection config listed files → IsSelection config others other_files → (file : List ℕ) → Contains (paths_of files) file → Contains (paths_of other_files) file
path_alike config listed others files other_files same one other file h =
    let there = file_of_path files file h in
    path_of_file other_files file there.0 (file_alike config listed others files other_files same one other file there.0 there.1)

-- a file has one mark
one_mark : (config : Config) (listed : List (List ℕ)) (files : List Chosen) → IsSelection config listed files → (file : List ℕ) (m n : Bool) → Contains files (file, m) → Contains files (file, n) → m ≡ n
one_mark config listed files is file true true a b = refl
one_mark config listed files is file false false a b = refl
one_mark config listed files is file true false a b = absurd (((is.scanned file).0 b).1.not_analysed ((is.analysed file).0 a).1)
one_mark config listed files is file false true a b = absurd (((is.scanned file).0 a).1.not_analysed ((is.analysed file).0 b).1)

pub selections_alike : (config : Config) (listed others : List (List ℕ)) (files other_files : List Chosen) → ((file : List ℕ) → Contains listed file ↔ Contains others file) → IsSelection config listed files → IsSelection config others other_files → files ≡ other_files
selections_alike config listed others files other_files same one other =
    let paths : paths_of files ≡ paths_of other_files =
    strictly_sorted_unique nat_list_cmp_total path_cmp-IsAntisymmetric (paths_of files) (paths_of other_files) one.rising other.rising
    (path_alike config listed others files other_files (λ file. (same file).0) one other)
    (path_alike config others listed other_files files (λ file. (same file).1) other one) in
    let lengths : length files ≡ length other_files = sym (length-map files (λ f. f.0)) ∙ ap length paths ∙ length-map other_files (λ f. f.0) in
    same_lists files other_files lengths (λ k d lt.
    let x : Chosen = get_or files k d in
    let y : Chosen = get_or other_files k d in
    let other_lt : k < length other_files = omega (arith, lengths) in
    let path : x.0 ≡ y.0 = sym (get_or-map (λ f. f.0) files k d d.0 lt) ∙ ap (λ ps. get_or ps k d.0) paths ∙ get_or-map (λ f. f.0) other_files k d d.0 other_lt in
    let in_files : Contains files x = Contains-get_or files k d lt in
    let in_others : Contains other_files y = Contains-get_or other_files k d other_lt in
    let moved : Contains other_files (x.0, x.1) = file_alike config listed others files other_files (λ file. (same file).0) one other x.0 x.1 in_files in
    let mark : x.1 ≡ y.1 = one_mark config others other_files other y.0 x.1 y.1 (subst (λ p. Contains other_files (p, x.1)) path moved) in_others in
    let both : x ≡ y = λ i. (path i, mark i) in
    both)
