-- The chosen files stand in byte order, and are those that a path chooses.
use Rattle.std.proofs.Common.{◌≡◌, ℕ, ◌+◌, Bool, true, List, [], ◌∷◌, map, refl, sym, ap, subst, ◌∙◌}
use Rattle.std.specs.Prelude.{◌||◌, ◌↔◌, IsTrue, take}
use Rattle.std.specs.Option.{IsSome}
use Rattle.std.specs.Ordering.{nat_cmp}
use Rattle.std.specs.Cmp.Lexicographic.{slice_cmp, nat_list_cmp_total}
use Rattle.std.specs.List.{Contains, list_any}
use Rattle.std.specs.List.Sorted.{IsStrictlySortedBy}
use Rattle.std.specs.FinMap as finite
use Rattle.std.specs.FinMap.Entries.{where_key, is_sorted-where_key}
use Rattle.std.proofs.lemmas.List.Elements.{filter_agree}
use Rattle.std.proofs.lemmas.List.Folds.{Any-from_list_any, list_any-from_Any}
use Rattle.stan_base.proofs.Orders.{same_test, IsStrictlySortedBy-keys, strictly_sorted_unique, Contains-where_key}
use Rattle.stan_model_readings.specs.Reading.{largest_source}
use Rattle.stan_outside.specs.Contents.{Contents}
use Rattle.stan_paths.specs.Paths.{normal_path}
use Rattle.stan_paths.proofs.ListLemmas.{path_cmp-IsAntisymmetric}
use Rattle.stan_cli.specs.Project.{is_chosen, chooses, chosen_files, paths_of}

list_any-map : (p : List ℕ → Bool) (paths : List (List ℕ)) → list_any p (map normal_path paths) ≡ list_any (λ path. p (normal_path path)) paths
list_any-map p [] = refl
list_any-map p (path ∷ paths) = ap (λ b. p (normal_path path) || b) (list_any-map p paths)

keys_through : (f : List ℕ → List ℕ) (files : List (List ℕ × List ℕ)) → map (λ file. file.0) files ≡ paths_of (map (λ file. (file.0, f file.1)) files)
keys_through f [] = refl
keys_through f (file ∷ files) = ap (λ ps. file.0 ∷ ps) (keys_through f files)

-- a test that one of the paths passes, whatever their order
some_path : (p : List ℕ → Bool) (paths others : List (List ℕ)) → ((path : List ℕ) → Contains paths path → Contains others path) → list_any p (map normal_path paths) ≡ true → list_any p (map normal_path others) ≡ true
some_path p paths others f h =
    let one = Any-from_list_any (λ path. p (normal_path path)) paths (sym (list_any-map p paths) ∙ h) in
    let there : Contains others one.1 = f one.1 (one.0, one.2, one.3) in
    list_any-map p others ∙ list_any-from_Any (λ path. p (normal_path path)) others (there.0, one.1, there.1, there.2, one.4)

-- paths given in another order choose the same
pub chosen_alike : (paths others : List (List ℕ)) (contents : Contents) → ((path : List ℕ) → Contains paths path ↔ Contains others path) → chosen_files paths contents ≡ chosen_files others contents
chosen_alike paths others contents same =
    ap (map (λ file. (file.0, take (largest_source + 1) file.1)))
    (filter_agree (λ file. is_chosen (map normal_path paths) file.0) (λ file. is_chosen (map normal_path others) file.0)
    (λ file. same_test _ _ (some_path (λ path. chooses path file.0) paths others (λ path. (same path).0)) (some_path (λ path. chooses path file.0) others paths (λ path. (same path).1)))
    (finite.entries contents))

module _ (contents : Contents) (paths : List (List ℕ)) where
  abbrev chosen_entries : List (List ℕ × List ℕ)
  chosen_entries = where_key (slice_cmp nat_cmp) (is_chosen (map normal_path paths)) (finite.entries contents)

  paths-chosen_entries : map (λ file. file.0) chosen_entries ≡ paths_of (chosen_files paths contents)
  paths-chosen_entries = keys_through (take (largest_source + 1)) chosen_entries

  pub chosen-sorted : IsStrictlySortedBy (slice_cmp nat_cmp) (paths_of (chosen_files paths contents))
  chosen-sorted = subst (IsStrictlySortedBy (slice_cmp nat_cmp)) paths-chosen_entries (IsStrictlySortedBy-keys _ chosen_entries (is_sorted-where_key (slice_cmp nat_cmp) (is_chosen (map normal_path paths)) (finite.entries contents) (finite.entries_sorted contents)))

  pub Contains-chosen : (p : List ℕ) → Contains (paths_of (chosen_files paths contents)) p ↔ (IsSome (finite.get contents p) × IsTrue (is_chosen (map normal_path paths) p))
  Contains-chosen p = subst (λ ps. Contains ps p ↔ (IsSome (finite.get contents p) × IsTrue (is_chosen (map normal_path paths) p))) paths-chosen_entries
      (Contains-where_key nat_list_cmp_total path_cmp-IsAntisymmetric contents (is_chosen (map normal_path paths)) p)

  -- a list in strict order of the paths that are chosen
  pub chosen_are : (ys : List (List ℕ)) → IsStrictlySortedBy (slice_cmp nat_cmp) ys → ((p : List ℕ) → Contains ys p → IsSome (finite.get contents p) × IsTrue (is_chosen (map normal_path paths) p)) → ((p : List ℕ) → IsSome (finite.get contents p) → IsTrue (is_chosen (map normal_path paths) p) → Contains ys p) → ys ≡ paths_of (chosen_files paths contents)
  chosen_are ys h f g =
      strictly_sorted_unique nat_list_cmp_total path_cmp-IsAntisymmetric ys _ h chosen-sorted
      (λ p c. (Contains-chosen p).1 (f p c))
      (λ p c. let both = (Contains-chosen p).0 c in g p both.0 both.1)
