-- What is read at the chosen paths is what the chosen files hold.
use Rattle.std.proofs.Common.{◌≡◌, ℕ, ◌+◌, Bool, true, false, cond, List, [], ◌∷◌, map, take, Some, refl, sym, ap, ◌∙◌}
use Rattle.std.specs.Prelude.{T, ◌&&◌, unwrap_or}
use Rattle.std.specs.List.{AllByRecursion, filter, zip}
use Rattle.std.specs.declared.cmp.Ordering.{Ordering}
use Rattle.std.specs.declared.cmp.Ordering.TheVariants.{Less, Equal, Greater}
use Rattle.std.specs.Ordering.{is_lt, is_eq, eq_by_cmp, nat_cmp, ordering_reverse}
use Rattle.std.specs.Cmp.{IsTotalOrder, eq_by_cmp_equiv}
use Rattle.std.specs.Cmp.Lexicographic.{slice_cmp, nat_list_cmp_total}
use Rattle.std.specs.FinMap as finite
use Rattle.std.specs.FinMap.Entries.{find, below_all, is_sorted}
use Rattle.stan_model_readings.specs.Reading.{largest_source}
use Rattle.stan_outside.specs.Contents.{Contents}
use Rattle.stan_paths.specs.Paths.{normal_path}
use Rattle.stan_cli.specs.Project.{is_chosen, chosen_files, paths_of, sources_of}
use Rattle.stan_cli.specs.Sources.{source_at}

first_true : (a b : Bool) → T (a && b) → T a
first_true true b p = tt
first_true false b p = p

second_true : (a b : Bool) → T (a && b) → T b
second_true true b p = p
second_true false b p = absurd p

-- what is less is not tied the other way round
not_tied : (o p : Ordering) → o ≡ ordering_reverse p → T (is_lt p) → is_eq o ≡ false
not_tied o Less e h = ap is_eq e
not_tied o Equal e h = absurd h
not_tied o Greater e h = absurd h

module _ {K X : Type 0} (R : K → K → Ordering) (o : IsTotalOrder R) where
  found_later : (x : K × X) (es ys : List (K × X)) → T (below_all R x.0 ys) → AllByRecursion (λ y. find R y.0 es ≡ Some y.1) ys → AllByRecursion (λ y. find R y.0 (x ∷ es) ≡ Some y.1) ys
  found_later x es [] below h = tt
  found_later x es (y ∷ ys) below h =
      let apart : eq_by_cmp R y.0 x.0 ≡ false = not_tied (R y.0 x.0) (R x.0 y.0) (o.antisymm y.0 x.0) (first_true _ _ below) in
      (ap (λ b. cond b (Some x.1) (find R y.0 es)) apart ∙ h.0, found_later x es ys (second_true _ _ below) h.1)

  -- each entry is found at its key
  pub entries_found : (es : List (K × X)) → T (is_sorted R es) → AllByRecursion (λ e. find R e.0 es ≡ Some e.1) es
  entries_found [] h = tt
  entries_found (x ∷ es) h =
      (ap (λ b. cond b (Some x.1) (find R x.0 es)) ((eq_by_cmp_equiv o).refl x.0), found_later x es es (first_true _ _ h) (entries_found es (second_true _ _ h)))

module _ (contents : Contents) where
  abbrev read_file : List ℕ × List ℕ → List ℕ × List ℕ
  read_file file = (file.0, take (largest_source + 1) file.1)

  sources-filter : (p : List ℕ × List ℕ → Bool) (es : List (List ℕ × List ℕ)) → AllByRecursion (λ e. finite.get contents e.0 ≡ Some e.1) es → sources_of (map read_file (filter p es)) ≡ map (source_at contents) (paths_of (map read_file (filter p es)))
  sources-filter p [] h = refl
  sources-filter p (e ∷ es) h =
      let rest = sources-filter p es h.1 in
      let here : take (largest_source + 1) e.1 ≡ source_at contents e.0 = ap (λ x. take (largest_source + 1) (unwrap_or x [])) (sym h.0) in
      elim (p e) as (λ b. sources_of (map read_file (cond b (e ∷ filter p es) (filter p es))) ≡ map (source_at contents) (paths_of (map read_file (cond b (e ∷ filter p es) (filter p es))))) [
        | true ↦ λ i. here i ∷ rest i
        | false ↦ rest
      ]

  held : (es : List (List ℕ × List ℕ)) → AllByRecursion (λ e. find (slice_cmp nat_cmp) e.0 (finite.entries contents) ≡ Some e.1) es → AllByRecursion (λ e. finite.get contents e.0 ≡ Some e.1) es
  held [] h = tt
  held (e ∷ es) h = (finite.get-entries contents e.0 ∙ h.0, held es h.1)

  -- what is read at the paths of the chosen files
  pub sources-chosen : (paths : List (List ℕ)) → sources_of (chosen_files paths contents) ≡ map (source_at contents) (paths_of (chosen_files paths contents))
  sources-chosen paths =
      sources-filter (λ file. is_chosen (map normal_path paths) file.0) (finite.entries contents)
      (held (finite.entries contents) (entries_found (slice_cmp nat_cmp) nat_list_cmp_total (finite.entries contents) (finite.entries_sorted contents)))

-- files by their paths and their sources
pub zip-files : (files : List (List ℕ × List ℕ)) → zip (paths_of files) (sources_of files) ≡ files
zip-files [] = refl
zip-files (file ∷ files) = ap (λ rest. (file.0, file.1) ∷ rest) (zip-files files)
