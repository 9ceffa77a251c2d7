-- Every listing has a selection: whatever the choice of files asks is decided.
use Rattle.std.proofs.Common.{◌≡◌, ◌∙◌, ◌⊎◌, ℕ, Bool, true, false, List, [], ◌∷◌, ◌++◌, map, filter, refl, sym, ap, subst, inl, inr, ⊎_elim, arith}
use Rattle.std.specs.Prelude.{codes}
use Rattle.std.specs.List.{Contains}
use Rattle.std.specs.List.Sorted.{IsStrictlySortedBy}
use Rattle.std.specs.Ordering.{nat_cmp}
use Rattle.std.specs.Cmp.Lexicographic.{slice_cmp, nat_list_cmp_total}
use Rattle.std.specs.Str.{bytes_eq}
use Rattle.std.proofs.lemmas.Bool.{cases_eq, cases_Bool, false≢true}
use Rattle.std.proofs.lemmas.Slice.Eq.{bytes_eq-Decides}
use Rattle.std.proofs.lemmas.List.Elements.{Contains-get_or, Contains-append_right, Contains-append_cases, Contains-push_cases}
use Rattle.stan_base.proofs.SortLemmas.{Contains-map, item_from_Contains-map}
use Rattle.stan_base.proofs.Orders.{members_in_order, items-sorted, Contains-members_in_order}
use Rattle.stan_paths.proofs.ListLemmas.{path_cmp-IsAntisymmetric, Contains-filter, passes_from_filter}
use Rattle.stan_settings.specs.declared.Config.{Config}
use Rattle.stan_patterns.specs.Patterns.{Matches, BehindAny}
use Rattle.stan_select.specs.Paths.{IsUnder, IsPhp}
use Rattle.stan_select.specs.Choice.{Chooses, Named, Within, TakesAway, Itself, Under, Matching, normal_paths, IsTakenAwayBy, IsAnalysed, IsScanned}
use Rattle.stan_select.specs.Selection.{Chosen, paths_of, IsSelection}
use Rattle.stan_select.proofs.SelectionLemmas.{selections_alike}

-- a fact that holds or doesn't
abbrev Decided : Type 0 → Type 0
Decided A = A ⊎ (A → ⊥)

or : {A B C : Type 0} → Decided A → Decided B → (A → C) → (B → C) → (C → A ⊎ B) → Decided C
or (inl a) y left right back = inl (left a)
or (inr fails) (inl b) left right back = inl (right b)
or (inr fails) (inr also) left right back = inr (λ c. ⊎_elim fails also (back c))

and : {A B C : Type 0} → Decided A → Decided B → (A → B → C) → (C → A) → (C → B) → Decided C
and (inl a) (inl b) both first second = inl (both a b)
and (inl a) (inr fails) both first second = inr (λ c. fails (second c))
and (inr fails) y both first second = inr (λ c. fails (first c))

not : {A : Type 0} → Decided A → Decided (A → ⊥)
not (inl a) = inr (λ fails. fails a)
not (inr fails) = inl fails

abbrev is : {A : Type 0} → Decided A → Bool
is (inl a) = true
is (inr fails) = false

is_true : {A : Type 0} (d : Decided A) → A → is d ≡ true
is_true (inl a) b = refl
is_true (inr fails) b = absurd (fails b)

from_true : {A : Type 0} (d : Decided A) → is d ≡ true → A
from_true (inl a) e = a
from_true (inr fails) e = absurd (false≢true e)

from_false : {A : Type 0} (d : Decided A) → is d ≡ false → A → ⊥
from_false (inl a) e b = false≢true (sym e)
from_false (inr fails) e b = fails b

is_false : {A : Type 0} (d : Decided A) → (A → ⊥) → is d ≡ false
is_false (inl a) fails = absurd (fails a)
is_false (inr none) fails = refl

-- ---- texts

same_text : (a b : List ℕ) → Decided (a ≡ b)
same_text a b = ⊎_elim (λ yes. inl ((bytes_eq-Decides a b).0 yes)) (λ fails. inr (λ e. false≢true (sym fails ∙ (bytes_eq-Decides a b).1 e))) (cases_Bool (bytes_eq a b))

none : {X : Type 0} (y : X) → Contains [] y → ⊥
none y h = let lt = h.1 in omega arith

one_or_later : (x : List ℕ) (xs : List (List ℕ)) (y : List ℕ) → Contains (x ∷ xs) y → (x ≡ y) ⊎ Contains xs y
one_or_later x xs y h = ⊎_elim (λ one. ⊎_elim (λ fails. absurd (none y fails)) (λ e. inl e) (Contains-push_cases [] x y one)) (λ there. inr there) (Contains-append_cases (x ∷ []) xs y h)

some_of : (P : List ℕ → Type 0) → ((x : List ℕ) → Decided (P x)) → (xs : List (List ℕ)) → Decided ((x : List ℕ) × (Contains xs x × P x))
some_of P decide [] = inr (λ h. none h.0 h.1.0)
some_of P decide (x ∷ xs) =
    or (decide x) (some_of P decide xs)
    (λ p. (x, (Contains-get_or (x ∷ xs) 0 x (omega arith), p)))
    (λ h. (h.0, (Contains-append_right (x ∷ []) xs h.0 h.1.0, h.1.1)))
    (λ h. ⊎_elim (λ e. inl (subst P (sym e) h.1.1)) (λ there. inr (h.0, (there, h.1.1))) (one_or_later x xs h.0 h.1.0))

-- a text begins with another, and a fact holds of the rest
behind : (P : List ℕ → Type 0) → ((rest : List ℕ) → Decided (P rest)) → (front text : List ℕ) → Decided ((rest : List ℕ) × (text ≡ front ++ rest) × P rest)
behind P decide [] text = or (decide text) (inr (λ (fails : ⊥). fails)) (λ p. (text, refl, p)) (λ fails. absurd fails) (λ h. inl (subst P (sym h.1) h.2))
behind P decide (x ∷ front) [] = inr (λ h. absurd (let e = h.1 in cc))
behind P decide (x ∷ front) (y ∷ text) =
    elim (cases_eq x y) [
      | inl e ↦ or (behind P decide front text) (inr (λ (fails : ⊥). fails)) (λ h. (h.0, (λ i. sym e i ∷ h.1 i), h.2)) (λ fails. absurd fails) (λ h. inl (h.0, let all = h.1 in cc, h.2))
      | inr fails ↦ inr (λ h. fails (let all = h.1 in cc))
    ]

-- a text is any bytes, and a rest of which a fact holds
behind_any : (P : List ℕ → Type 0) → ((rest : List ℕ) → Decided (P rest)) → (text : List ℕ) → Decided (BehindAny P text)
behind_any P decide [] = or (decide []) (inr (λ (fails : ⊥). fails)) (λ p. record { any = []; rest = []; splits = refl; holds = p }) (λ fails. absurd fails) (λ h. inl (at_end h.any h.rest h.splits h.holds))
  where
    at_end : (any rest : List ℕ) → [] ≡ any ++ rest → P rest → P []
    at_end [] rest e p = subst P (sym e) p
    at_end (x ∷ any) rest e p = absurd (cc)
behind_any P decide (x ∷ text) =
    or (decide (x ∷ text)) (behind_any P decide text) (λ p. record { any = []; rest = x ∷ text; splits = refl; holds = p }) (λ h. record { any = x ∷ h.any; rest = h.rest; splits = ap (λ t. x ∷ t) h.splits; holds = h.holds })
    (λ h. here h.any h.rest h.splits h.holds)
  where
    here : (any rest : List ℕ) → x ∷ text ≡ any ++ rest → P rest → P (x ∷ text) ⊎ BehindAny P text
    here [] rest e p = inl (subst P (sym e) p)
    here (y ∷ any) rest e p = inr (record { any = any; rest = rest; splits = cc; holds = p })

matches : (pattern text : List ℕ) → Decided (Matches pattern text)
unfolding Matches
matches [] text = same_text text []
matches (byte ∷ pattern) text =
    elim (cases_eq byte 42) [
      | inl e ↦ or (behind_any (Matches pattern) (matches pattern) text) (inr (λ (fails : ⊥). fails)) (λ h. inl (e, h)) (λ fails. absurd fails) (λ h. inl (⊎_elim (λ star. star.1) (λ other. absurd (other.0 e)) h))
      | inr fails ↦ or (behind (Matches pattern) (matches pattern) (byte ∷ []) text) (inr (λ (fails : ⊥). fails)) (λ h. inr (fails, record { rest = h.0; splits = h.1; holds = h.2 })) (λ fails. absurd fails)
          (λ h. inl (⊎_elim (λ star. absurd (fails star.0)) (λ other. (other.1.rest, other.1.splits, other.1.holds)) h))
    ]

-- ---- files

starts_with_slash : (rest : List ℕ) → Decided ((name : List ℕ) × (rest ≡ 47 ∷ name))
starts_with_slash [] = inr (λ h. absurd (let e = h.1 in cc))
starts_with_slash (x ∷ rest) = elim (cases_eq x 47) [ inl e ↦ inl (rest, ap (λ y. y ∷ rest) e) | inr fails ↦ inr (λ h. fails (let e = h.1 in cc)) ]

is_under : (path file : List ℕ) → Decided (IsUnder path file)
is_under path file =
    or (same_text path []) (behind (λ rest. (name : List ℕ) × (rest ≡ 47 ∷ name)) starts_with_slash path file) (λ e. inl e) (λ h. inr (h.2.0, h.1 ∙ ap (λ rest. path ++ rest) h.2.1))
    (λ h. ⊎_elim (λ e. inl e) (λ name. inr (47 ∷ name.0, name.1, (name.0, refl))) h)

is_php : (file : List ℕ) → Decided (IsPhp file)
is_php file =
    or (behind_any (λ rest. rest ≡ codes ".php") (λ rest. same_text rest (codes ".php")) file) (inr (λ (fails : ⊥). fails)) (λ h. (h.any, h.splits ∙ ap (λ rest. h.any ++ rest) h.holds)) (λ fails. absurd fails)
    (λ h. inl (record { any = h.0; rest = codes ".php"; splits = h.1; holds = refl }))

chooses : (file path : List ℕ) → Decided (Chooses path file)
chooses file path =
    or (same_text file path) (and (is_under path file) (is_php file) (λ u p. (u, p)) (λ h. h.0) (λ h. h.1)) (λ e. Named e) (λ h. Within h.0 h.1) back
  where
    back : Chooses path file → (file ≡ path) ⊎ (IsUnder path file × IsPhp file)
    back (Named e) = inl e
    back (Within u p) = inr (u, p)

takes_away : (file entry : List ℕ) → Decided (TakesAway entry file)
takes_away file entry =
    or (same_text file entry) (or (is_under entry file) (matches entry file) (λ u. inl u) (λ m. inr m) (λ h. h)) (λ e. Itself e) (λ h. ⊎_elim (λ u. Under u) (λ m. Matching m) h) back
  where
    back : TakesAway entry file → (file ≡ entry) ⊎ (IsUnder entry file ⊎ Matches entry file)
    back (Itself e) = inl e
    back (Under u) = inr (inl u)
    back (Matching m) = inr (inr m)

module _ (config : Config) where
  is_kept : (file : List ℕ) → Decided (IsTakenAwayBy (normal_paths config.exclude) file → ⊥)
  is_kept file = not (some_of (λ entry. TakesAway entry file) (takes_away file) (normal_paths config.exclude))

  is_analysed : (file : List ℕ) → Decided (IsAnalysed config file)
  is_analysed file =
      and (some_of (λ path. Chooses path file) (chooses file) (normal_paths config.paths)) (is_kept file) (λ c k. record { chosen = c; kept = k }) (λ h. h.chosen) (λ h. h.kept)

  is_only_scanned : (file : List ℕ) → Decided ((IsTakenAwayBy (normal_paths config.exclude) file → ⊥) × (IsAnalysed config file → ⊥))
  is_only_scanned file = and (is_kept file) (not (is_analysed file)) (λ k n. (k, n)) (λ h. h.0) (λ h. h.1)

  is_scanned : (file : List ℕ) → Decided (IsScanned config file)
  is_scanned file =
      and (some_of (λ path. Chooses path file) (chooses file) (normal_paths config.scan_files ++ normal_paths config.scan_directories)) (is_only_scanned file)
      (λ c h. record { chosen = c; kept = h.0; not_analysed = h.1 }) (λ h. h.chosen) (λ h. (h.kept, h.not_analysed))

  -- ---- the selection

  abbrev Is : List ℕ → Type 0
  Is file = IsAnalysed config file ⊎ IsScanned config file

  is_selected : (file : List ℕ) → Decided (Is file)
  is_selected file = or (is_analysed file) (is_scanned file) (λ a. inl a) (λ s. inr s) (λ h. h)

  module _ (listed : List (List ℕ)) where
    those : List (List ℕ)
    those = members_in_order (slice_cmp nat_cmp) (filter (λ file. is (is_selected file)) listed)

    files : List Chosen
    files = map (λ file. (file, is (is_analysed file))) those

    paths_are : (xs : List (List ℕ)) → paths_of (map (λ file. (file, is (is_analysed file))) xs) ≡ xs
    paths_are [] = refl
    paths_are (x ∷ xs) = ap (λ rest. x ∷ rest) (paths_are xs)

    in_those : (file : List ℕ) → Contains listed file → Is file → Contains those file
    unfolding those
    in_those file there h =
        (Contains-members_in_order nat_list_cmp_total path_cmp-IsAntisymmetric (filter (λ f. is (is_selected f)) listed) file).1
        (Contains-filter (λ f. is (is_selected f)) listed file there (is_true (is_selected file) h))

    from_those : (file : List ℕ) → Contains those file → Contains listed file × Is file
    unfolding those
    from_those file h =
        let passes = passes_from_filter (λ f. is (is_selected f)) listed file ((Contains-members_in_order nat_list_cmp_total path_cmp-IsAntisymmetric (filter (λ f. is (is_selected f)) listed) file).0 h) in
        (passes.0, from_true (is_selected file) passes.1)

    rising_those : IsStrictlySortedBy (slice_cmp nat_cmp) those
    unfolding those
    rising_those = items-sorted _

    in_files : (file : List ℕ) (m : Bool) → Contains listed file → Is file → is (is_analysed file) ≡ m → Contains files (file, m)
    unfolding files
    in_files file m there h e = subst (λ b. Contains {X = Chosen} (map (λ f. (f, is (is_analysed f))) those) (file, b)) e (Contains-map (λ f. (f, is (is_analysed f))) those file (in_those file there h))

    from_files : (file : List ℕ) (m : Bool) → Contains files (file, m) → Contains listed file × Is file × (is (is_analysed file) ≡ m)
    unfolding files
    from_files file m h =
        let x = item_from_Contains-map (λ f. (f, is (is_analysed f))) those (file, m) h in
        let same : x.0 ≡ file = ap (λ c. c.0) x.2 in
        let marked : is (is_analysed x.0) ≡ m = ap (λ c. c.1) x.2 in
        let there = from_those file (subst (Contains those) same x.1) in
        (there.0, there.1, subst (λ f. is (is_analysed f) ≡ m) same marked)

    selection : IsSelection config listed files
    unfolding files
    selection = record {
      rising = subst (IsStrictlySortedBy (slice_cmp nat_cmp)) (sym (paths_are those)) rising_those;
      analysed = λ file. (
        λ h. let from = from_files file true h in (from.0, from_true (is_analysed file) from.2),
        λ h. in_files file true h.0 (inl h.1) (is_true (is_analysed file) h.1),
      );
      scanned = λ file. (
        λ h. let from = from_files file false h in (from.0, ⊎_elim (λ a. absurd (from_false (is_analysed file) from.2 a)) (λ s. s) from.1),
        λ h. in_files file false h.0 (inr h.1) (is_false (is_analysed file) h.1.not_analysed),
      );
    }

pub one_selection : (config : Config) (listed : List (List ℕ)) → (files : List Chosen) × IsSelection config listed files × ((other : List Chosen) → IsSelection config listed other → other ≡ files)
one_selection config listed = (files config listed, selection config listed, λ other is. selections_alike config listed listed other (files config listed) (λ file. (λ h. h, λ h. h)) is (selection config listed))
