-- Sets of paths: what one path more changes, and which file stands under one of them.
use Rattle.std.proofs.Common.{◌≡◌, ◌⊎◌, ℕ, ◌<◌, Bool, true, false, List, [], ◌∷◌, ◌++◌, length, take, drop, suc, get_or, Vec, refl, sym, ap, subst, ◌∙◌, inl, inr, ⊎_elim, arith, length-append}
use Rattle.std.specs.Prelude.{◌||◌, IsTrue, ◌↔◌, nat_eq, codes}
use Rattle.std.specs.List.{Contains, list_any, ends_with}
use Rattle.std.specs.declared.cmp.Ordering.{Ordering}
use Rattle.std.specs.declared.cmp.Ordering.TheVariants.{Less, Equal, Greater}
use Rattle.std.specs.Ordering.{nat_cmp, is_eq, eq_by_cmp, match_ordering}
use Rattle.std.specs.Cmp.Lexicographic.{slice_cmp, nat_list_cmp_total}
use Rattle.std.specs.BTreeSet.{BTreeSet, insert_key}
use Rattle.std.proofs.lemmas.Bool.{false≢true}
use Rattle.std.proofs.lemmas.List.Folds.{list_any-append}
use Rattle.std.proofs.lemmas.Bool.Decides.{Decides-eqb}
use Rattle.std.proofs.lemmas.Slice.Eq.{ends_is}
use Rattle.std.proofs.lemmas.Map.Views.{tells_apart}
use Rattle.std.proofs.Math.Seq.{take-append_seam, get_or-append_seam}
use Rattle.stan_base.proofs.Orders.{Contains-from_found, found-from_Contains}
use Rattle.stan_select.specs.Paths.{IsPhp}
use Rattle.stan_select.specs.Choice.{Named, Within, IsChosenBy}
use Rattle.stan_select.specs.Names.{has, is_among, AreNames, HasFolder, HasChooser}
use Rattle.stan_paths.proofs.ListLemmas.{path_cmp-IsAntisymmetric}
use Rattle.stan_select.proofs.ListLemmas.{splits_at}

-- ---- tests

or_same : (a b c : Bool) → a ≡ b → (b || c) ≡ (a || (b || c))
or_same true true c e = refl
or_same false false c e = refl
or_same true false c e = absurd (false≢true (sym e))
or_same false true c e = refl

or_past : (a b c : Bool) → (b || (a || c)) ≡ (a || (b || c))
or_past true true c = refl
or_past true false c = refl
or_past false true c = refl
or_past false false c = refl

or_to_end : (a b c : Bool) → (a || (b || c)) ≡ (b || (c || a))
or_to_end true true c = refl
or_to_end false true c = refl
or_to_end true false true = refl
or_to_end true false false = refl
or_to_end false false true = refl
or_to_end false false false = refl

or_false : (a : Bool) → a ≡ (a || false)
or_false true = refl
or_false false = refl

-- ---- one path more

module _ {Z : Type 0} where
  abbrev name_cmp : Vec ℕ Z → Vec ℕ Z → Ordering
  name_cmp x y = slice_cmp nat_cmp x.items y.items

  abbrev is_name : List ℕ → Vec ℕ Z → Bool
  is_name path name = is_eq (slice_cmp nat_cmp path name.items)

  same_answer : (path : List ℕ) (x y : Vec ℕ Z) → slice_cmp nat_cmp x.items y.items ≡ Equal → is_name path x ≡ is_name path y
  same_answer path x y e = ap (λ bytes. is_eq (slice_cmp nat_cmp path bytes)) (tells_apart path_cmp-IsAntisymmetric x.items y.items (ap is_eq e))

  any-insert_key : (path : List ℕ) (key : Vec ℕ Z) (keys : List (Vec ℕ Z)) → list_any (is_name path) (insert_key name_cmp keys key) ≡ (is_name path key || list_any (is_name path) keys)
  any-insert_key path key [] = refl
  any-insert_key path key (x ∷ xs) =
      let Goal : Ordering → Type 0 = λ o. list_any (is_name path) (match_ordering o (key ∷ x ∷ xs) (x ∷ xs) (x ∷ insert_key name_cmp xs key)) ≡ (is_name path key || (is_name path x || list_any (is_name path) xs)) in
      elim (name_cmp key x) as (λ o. name_cmp key x ≡ o → Goal o) [
        | Less ↦ λ e. refl
        | Equal ↦ λ e. or_same _ _ _ (same_answer path key x e)
        | Greater ↦ λ e. ap (λ b. is_name path x || b) (any-insert_key path key xs) ∙ or_past (is_name path key) (is_name path x) (list_any (is_name path) xs)
      ] refl

  -- a set with one path more
  pub has-insert : (old new : BTreeSet (Vec ℕ Z)) (key : Vec ℕ Z) (path : List ℕ) → new.keys ≡ insert_key name_cmp old.keys key → has new path ≡ (eq_by_cmp (slice_cmp nat_cmp) path key.items || has old path)
  has-insert old new key path e = ap (list_any (is_name path)) e ∙ any-insert_key path key old.keys

  -- a step of a loop that adds paths
  pub has-more : (old new : BTreeSet (Vec ℕ Z)) (key : Vec ℕ Z) (before : Bool) (paths more : List (List ℕ)) (bytes path : List ℕ)
      → new.keys ≡ insert_key name_cmp old.keys key → has old path ≡ (before || is_among paths path) → key.items ≡ bytes → more ≡ paths ++ bytes ∷ []
      → has new path ≡ (before || is_among more path)
  has-more old new key before paths more bytes path inserted so_far is more_is =
      let test : List ℕ → Bool = eq_by_cmp (slice_cmp nat_cmp) path in
      has-insert old new key path inserted
      ∙ ap (λ b. test key.items || b) so_far
      ∙ or_to_end (test key.items) before (is_among paths path)
      ∙ ap (λ b. before || b) (
      ap (λ b. is_among paths path || b) (ap test is ∙ or_false (test bytes))
      ∙ sym (list_any-append test paths (bytes ∷ []))
      ∙ ap (list_any test) (sym more_is))

-- ---- folders

module _ {Z : Type 0} (names : BTreeSet (Vec ℕ Z)) (file : List ℕ) where
  pub folder_at : (at : ℕ) → at < length file → get_or file at 0 ≡ 47 → has names (take at file) ≡ true → HasFolder names file
  folder_at at lt slash there = (take at file, (there, inr (drop (suc at) file, splits_at file at 47 lt slash)))

  pub whole_folder : has names [] ≡ true → HasFolder names file
  whole_folder there = ([], (there, inl refl))

  pub has_from_HasFolder : ((at : ℕ) → at < length file → get_or file at 0 ≡ 47 → has names (take at file) ≡ true → ⊥) → HasFolder names file → has names [] ≡ true
  has_from_HasFolder none h =
      ⊎_elim
      (λ empty. subst (λ path. has names path ≡ true) empty h.1.0)
      (λ under.
      let path : List ℕ = h.0 in
      let name : List ℕ = under.0 in
      let e : file ≡ path ++ (47 ∷ name) = under.1 in
      absurd (none (length path)
      (omega (arith, ap length e, length-append path (47 ∷ name)))
      (ap (λ bytes. get_or bytes (length path) 0) e ∙ get_or-append_seam path 47 name 0)
      (ap (has names) (ap (take (length path)) e ∙ take-append_seam path (47 ∷ name)) ∙ h.1.0)))
      h.1.1

-- ---- files that a path of a set chooses

pub php_is : (file : List ℕ) (r : Bool) → r ≡ ends_with nat_eq file (codes ".php") → IsTrue r ↔ IsPhp file
php_is file r is = let ends = ends_is Decides-eqb file (codes ".php") r is in (λ t. (take _ file, ends.0 t), λ php. ends.1 php.0 php.1)

module _ {Z : Type 0} (names : BTreeSet (Vec ℕ Z)) (file : List ℕ) where
  pub chooser_named : has names file ≡ true → HasChooser names file
  chooser_named there = (file, (there, Named refl))

  pub chooser_within : IsPhp file → HasFolder names file → HasChooser names file
  chooser_within php folder = (folder.0, (folder.1.0, Within folder.1.1 php))

  pub chooser_cases : HasChooser names file → (has names file ≡ true) ⊎ (IsPhp file × HasFolder names file)
  chooser_cases h =
      elim h.1.1 [
        | Named same ↦ inl (subst (λ path. has names path ≡ true) (sym same) h.1.0)
        | Within under php ↦ inr (php, (h.0, (h.1.0, under)))
      ]

-- ---- sets of the paths of a list

module _ {Z : Type 0} (paths : List (List ℕ)) (names : BTreeSet (Vec ℕ Z)) (are : AreNames paths names) where
  pub Contains-from_has : (path : List ℕ) → has names path ≡ true → Contains paths path
  Contains-from_has path there = Contains-from_found nat_list_cmp_total path_cmp-IsAntisymmetric paths path (sym (are path) ∙ there)

  pub has-from_Contains : (path : List ℕ) → Contains paths path → has names path ≡ true
  has-from_Contains path h = are path ∙ found-from_Contains nat_list_cmp_total path_cmp-IsAntisymmetric paths path h

  pub IsChosenBy-from_names : (file : List ℕ) → HasChooser names file → IsChosenBy paths file
  IsChosenBy-from_names file h = (h.0, (Contains-from_has h.0 h.1.0, h.1.1))

  pub names_choose : (file : List ℕ) → IsChosenBy paths file → HasChooser names file
  names_choose file h = (h.0, (has-from_Contains h.0 h.1.0, h.1.1))
