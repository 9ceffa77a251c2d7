-- The choice of files, from the steps that make it.
use Rattle.std.proofs.Common.{◌≡◌, ℕ, List, map, length, Bool, true, sym, ap, subst, ◌∙◌, String, Global, string_bytes}
use Rattle.std.proofs.lemmas.List.{length-map}
use Rattle.std.specs.Prelude.{filter}
use Rattle.std.specs.List.{Contains}
use Rattle.stan_outside.specs.Contents.{Contents}
use Rattle.stan_paths.specs.Paths.{normal_path}
use Rattle.stan_cli.specs.Project.{is_chosen, chosen_files, paths_of}
use Rattle.stan_cli.proofs.ChosenLemmas.{chosen_are}
use Rattle.stan_outside.specs.Outside.{Lists}
use Rattle.stan_base.proofs.SortLemmas.{Contains-map, item_from_Contains-map}
use Rattle.stan_paths.specs.Paths.{IsInOrder}
use Rattle.stan_cli.specs.Choice.{IsChoice}
use Rattle.stan_paths.proofs.ListLemmas.{Contains-filter, passes_from_filter}

-- files that pass the test of the paths in normal form, put in order, are the choice
pub choice_is : (paths normal : List (List ℕ)) (listed : List (String Global)) (files : List (List ℕ)) → normal ≡ map normal_path paths → IsInOrder (map string_bytes (filter (λ file. is_chosen normal (string_bytes file)) listed)) files → IsChoice paths (map string_bytes listed) files
choice_is paths normal listed files e ordered =
    let test : String Global → Bool = λ file. is_chosen normal (string_bytes file) in
    record {
      rising = ordered.rising;
      listed_each = λ file h.
          let x = item_from_Contains-map string_bytes (filter test listed) file (ordered.adds_none file h) in
          subst (Contains (map string_bytes listed)) x.2 (Contains-map string_bytes listed x.0 (passes_from_filter test listed x.0 x.1).0);
      chosen_each = λ file h.
          let x = item_from_Contains-map string_bytes (filter test listed) file (ordered.adds_none file h) in
          subst (λ f. is_chosen (map normal_path paths) f ≡ true) x.2 (subst (λ ps. is_chosen ps (string_bytes x.0) ≡ true) e (passes_from_filter test listed x.0 x.1).1);
      all = λ file h yes.
          let x = item_from_Contains-map string_bytes listed file h in
          let passes : test x.0 ≡ true = subst (λ f. is_chosen normal f ≡ true) (sym x.2) (subst (λ ps. is_chosen ps file ≡ true) (sym e) yes) in
          ordered.keeps file (subst (Contains (map string_bytes (filter test listed))) x.2 (Contains-map string_bytes (filter test listed) x.0 (Contains-filter test listed x.0 x.1 passes)));
    }

-- the choice of what a folder lists
module _ (contents : Contents) (paths listed files : List (List ℕ)) (lists : Lists contents listed) (choice : IsChoice paths listed files) where
  pub choice_of_contents : files ≡ paths_of (chosen_files paths contents)
  choice_of_contents = chosen_are contents paths files choice.rising (λ p h. (lists.each p (choice.listed_each p h), choice.chosen_each p h)) (λ p some yes. choice.all p (lists.all p some) yes)

  pub length-choice : length files ≡ length (chosen_files paths contents)
  length-choice = ap length choice_of_contents ∙ length-map (chosen_files paths contents) _
