-- The files of a tree in memory, found by their paths.
use Rattle.std.proofs.Common.{◌≡◌, ◌≢◌, ℕ, zero, suc, ◌+◌, ◌<◌, ◌≤◌, ◌↔◌, Bool, true, false, IsTrue, List, [], ◌∷◌, map, length, get_or, take, Option, Some, IfSome, None, IsSome, is_some, Contains, All, AllPairs, HoldsAt, Vec, String, string_bytes, inl, inr, refl, sym, ap, subst, ◌∙◌, arith, Global, nat_cmp, is_eq, is_lt, Ordering, Less, Equal, Greater, ◌&&◌, not, bytes_eq, codes, add-one}
use Rattle.std.proofs.lemmas.Bool.{cases_Bool, cases_lt, and_parts, and_from, false_from_ne_true, true≢false, cond-true, cond-false}
use Rattle.std.proofs.lemmas.Cmp.{tied_itself, nat_list_cmp_total}
use Rattle.std.proofs.lemmas.Map.Text.{is_eq-slice_cmp}
use Rattle.std.proofs.lemmas.List.{get_or-map, length-map, take_all}
use Rattle.std.proofs.lemmas.List.Elements.{All-contains, All-map}
use Rattle.std.proofs.lemmas.List.Sums.{AllPass-from_list_all, list_all-from_AllPass}
use Rattle.std.proofs.lemmas.Slice.Eq.{bytes_eq-Decides}
use Rattle.std.specs.List.{AllWithin, IsAllAdjacentAnswer, list_all}
use Rattle.std.specs.Ordering.{eq_by_cmp}
use Rattle.std.specs.Cmp.Lexicographic.{slice_cmp}
use Rattle.std.specs.FinMap as finite
use Rattle.stan_outside.specs.Outside.{Lists, ArePaths, IsPath}
use Rattle.stan_outside.specs.Contents.{parts_of, is_proper_part}
use Rattle.stan_outside.specs.Memory.{AreFiles, AreRising, Rise, file_of, is_path, path_cmp, path_of, tree_contents}

abbrev File : Type 0
File = String Global × Vec ℕ Global

-- whether two paths are equal, as the order of paths tells it
abbrev is_same : List ℕ → List ℕ → Bool
is_same = eq_by_cmp (slice_cmp nat_cmp)

-- the first file at a path
abbrev first_at : List ℕ → List File → Option (List ℕ)
first_at path files = finite.find (slice_cmp nat_cmp) path (map file_of files)

get-contents : (files : List File) (path : List ℕ) → finite.get (tree_contents files) path ≡ first_at path files
get-contents files path = finite.get-from_entries nat_list_cmp_total (map file_of files) path

is_same-true : (a b : List ℕ) → is_same a b ≡ true → a ≡ b
is_same-true a b e = (bytes_eq-Decides a b).0 (sym (is_eq-slice_cmp a b) ∙ e)

is_same-itself : (a : List ℕ) → is_same a a ≡ true
is_same-itself a = ap is_eq (tied_itself nat_list_cmp_total a)

is_same-false : (a b : List ℕ) → a ≢ b → is_same a b ≡ false
is_same-false a b apart = false_from_ne_true (is_same a b) (λ e. apart (is_same-true a b e))

first_at-same : (file : File) (files : List File) (path : List ℕ) → path_of file ≡ path → first_at path (file ∷ files) ≡ Some file.1.items
first_at-same file files path e = cond-true (is_same path (path_of file)) _ _ (ap (is_same path) e ∙ is_same-itself path)

first_at-other : (file : File) (files : List File) (path : List ℕ) → path_of file ≢ path → first_at path (file ∷ files) ≡ first_at path files
first_at-other file files path apart = cond-false (is_same path (path_of file)) _ _ (is_same-false path (path_of file) (λ e. apart (sym e)))

abbrev AreDistinct : List File → Type 0
AreDistinct = AllPairs (λ a b. path_of a ≢ path_of b)

distinct_rest : (file : File) (files : List File) → AreDistinct (file ∷ files) → AreDistinct files
distinct_rest file files distinct i j d below within = distinct (suc i) (suc j) d (omega arith) (omega arith)

-- where no two paths are equal, the file that stands at a path is the first there
first_at-place : (files : List File) (k : ℕ) (d : File) (path : List ℕ) → AreDistinct files → k < length files → path_of (get_or files k d) ≡ path → first_at path files ≡ Some (get_or files k d).1.items
first_at-place [] k d path distinct within here = absurd (omega arith)
first_at-place (file ∷ files) zero d path distinct within here = first_at-same file files path here
first_at-place (file ∷ files) (suc k) d path distinct within here =
    first_at-other file files path (λ e. distinct 0 (suc k) d (omega arith) within (e ∙ sym here))
    ∙ first_at-place files k d path (distinct_rest file files distinct) (omega arith) here

first_at-none : (files : List File) (path : List ℕ) → All (λ file. path_of file ≢ path) files → first_at path files ≡ None
first_at-none [] path none = refl
first_at-none (file ∷ files) path none = first_at-other file files path (none 0 file (omega arith)) ∙ first_at-none files path (λ k d within. none (suc k) d (omega arith))

held_rest : (file : File) (files : List File) (path : List ℕ) → path_of file ≢ path → (k : ℕ) → k < length (map path_of (file ∷ files)) → get_or (map path_of (file ∷ files)) k path ≡ path → Contains (map path_of files) path
held_rest file files path apart zero within here = absurd (apart here)
held_rest file files path apart (suc k) within here = (k, omega arith, here)

-- a path leads to a file exactly where it is one of the paths
first_at-some : (files : List File) (path : List ℕ) → Contains (map path_of files) path → IsSome (first_at path files)
first_at-some [] path held = absurd (omega (arith, held.1))
first_at-some (file ∷ files) path held = elim (cases_Bool (is_same path (path_of file))) [
  | inl same ↦ subst IsSome (sym (cond-true (is_same path (path_of file)) _ _ same)) refl
  | inr other ↦
      let apart : path_of file ≢ path = λ e. true≢false (sym (ap (is_same path) e ∙ is_same-itself path) ∙ other) in
      subst IsSome (sym (first_at-other file files path apart)) (first_at-some files path (held_rest file files path apart held.0 held.1 held.2))
]

first_at-held : (files : List File) (path : List ℕ) → IsSome (first_at path files) → Contains (map path_of files) path
first_at-held [] path some = cc
first_at-held (file ∷ files) path some = elim (cases_Bool (is_same path (path_of file))) [
  | inl same ↦ (0, omega arith, sym (is_same-true path (path_of file) same))
  | inr other ↦ let rest = first_at-held files path (subst IsSome (cond-false (is_same path (path_of file)) _ _ other) some) in (suc rest.0, omega arith, rest.2)
]

-- ---- the contents of a tree

file_at_place : (files : List File) (place : ℕ) (d : File) (path : List ℕ) → AreFiles files → place < length files → path_of (get_or files place d) ≡ path → finite.get (tree_contents files) path ≡ Some (get_or files place d).1.items
file_at_place files place d path are within here = get-contents files path ∙ first_at-place files place d path are.distinct within here

no_file : (files : List File) (path : List ℕ) → All (λ file. path_of file ≢ path) files → finite.get (tree_contents files) path ≡ None
no_file files path none = get-contents files path ∙ first_at-none files path none

-- a file that is held stands at some place
pub some_place : (files : List File) (path : List ℕ) → AllWithin (λ file. path_of file ≢ path) files 0 (length files) → IsSome (finite.get (tree_contents files) path) → ⊥
some_place files path none held =
    let empty : finite.get (tree_contents files) path ≡ None = no_file files path (λ k d within. none k d (omega arith) within) in
    true≢false (sym held ∙ ap is_some empty)

-- what is read at the place of a path
pub read_at_place : (files : List File) (place : ℕ) (file : File) (path bytes : List ℕ) (most : ℕ) → AreFiles files → place < length files → HoldsAt (λ file. path_of file ≡ path) files place → file ≡ get_or files place file → bytes ≡ take most file.1.items → IfSome (finite.get (tree_contents files) path) (λ all. bytes ≡ take most all)
read_at_place files place file path bytes most are within here is read =
    let held : finite.get (tree_contents files) path ≡ Some file.1.items = file_at_place files place file path are within (here file) ∙ ap (λ (f : File). Some f.1.items) (sym is) in
    subst (λ o. IfSome o (λ all. bytes ≡ take most all)) (sym held) read

some_of_path : (files : List File) (path : List ℕ) → Contains (map path_of files) path → IsSome (finite.get (tree_contents files) path)
some_of_path files path held = subst IsSome (sym (get-contents files path)) (first_at-some files path held)

path_of_some : (files : List File) (path : List ℕ) → IsSome (finite.get (tree_contents files) path) → Contains (map path_of files) path
path_of_some files path some = first_at-held files path (subst IsSome (get-contents files path) some)

pub are_paths : (files : List File) → All (λ file. IsPath (path_of file)) files → ArePaths (tree_contents files)
are_paths files proper path some = All-contains IsPath (map path_of files) path (All-map IsPath path_of files proper) (path_of_some files path some)

distinct_paths : (files : List File) → AreDistinct files → AllPairs (λ x y. x ≢ y) (map path_of files)
distinct_paths [] distinct i j d below within same = absurd (omega arith)
distinct_paths (file ∷ files) distinct i j d below within same =
    let inside : j < length (file ∷ files) = omega (arith, length-map files path_of) in
    distinct i j file below inside (sym (get_or-map path_of (file ∷ files) i file d (omega arith)) ∙ same ∙ get_or-map path_of (file ∷ files) j file d inside)

-- the paths of all files list the contents
pub lists_files : (files : List File) (paths : List (String Global)) (n : ℕ) → AreFiles files → length files ≤ n → map string_bytes paths ≡ map path_of (take n files) → Lists (tree_contents files) (map string_bytes paths)
lists_files files paths n are all copied =
    subst (Lists (tree_contents files)) (sym (copied ∙ ap (map path_of) (take_all n files all))) (record { each = some_of_path files; all = path_of_some files; once = distinct_paths files are.distinct })

-- ---- files whose paths rise

all_of_both : {X : Type 0} (p q : X → Bool) (xs : List X) → list_all (λ x. p x && q x) xs ≡ true → (list_all p xs ≡ true) × (list_all q xs ≡ true)
all_of_both p q [] all = (refl, refl)
all_of_both p q (x ∷ xs) all =
    let first = and_parts (p x && q x) (list_all (λ x. p x && q x) xs) all in
    let here = and_parts (p x) (q x) first.0 in
    let rest = all_of_both p q xs first.1 in
    (and_from (p x) (list_all p xs) here.0 rest.0, and_from (q x) (list_all q xs) here.1 rest.1)

both_of_all : {X : Type 0} (p q : X → Bool) (xs : List X) → list_all p xs ≡ true → list_all q xs ≡ true → list_all (λ x. p x && q x) xs ≡ true
both_of_all p q [] all_p all_q = refl
both_of_all p q (x ∷ xs) all_p all_q =
    let one = and_parts (p x) (list_all p xs) all_p in
    let other = and_parts (q x) (list_all q xs) all_q in
    and_from (p x && q x) (list_all (λ x. p x && q x) xs) (and_from (p x) (q x) one.0 other.0) (both_of_all p q xs one.1 other.1)

abbrev is_not_parent : List ℕ → Bool
is_not_parent part = not (bytes_eq part (codes ".."))

proper_paths : (files : List File) → list_all (λ file. is_path (path_of file)) files ≡ true → All (λ file. IsPath (path_of file)) files
proper_paths files all k d within =
    all_of_both is_proper_part is_not_parent (parts_of (path_of (get_or files k d))) (AllPass-from_list_all (λ file. is_path (path_of file)) files all k d within)

all_proper : (files : List File) → All (λ file. IsPath (path_of file)) files → list_all (λ file. is_path (path_of file)) files ≡ true
all_proper files proper = list_all-from_AllPass (λ file. is_path (path_of file)) files (λ k d within.
    both_of_all is_proper_part is_not_parent (parts_of (path_of (get_or files k d))) (proper k d within).0 (proper k d within).1)

less_of_test : (o : Ordering) → true ≡ is_lt o → o ≡ Less
less_of_test Less e = refl
less_of_test Equal e = cc
less_of_test Greater e = cc

-- whether the path of a file is less than that of another
abbrev pub is_before : File → File → Bool
is_before a b = is_lt (path_cmp a b)

-- each file is before the next
abbrev pub RisesInSteps : List File → Type 0
RisesInSteps files = (k : ℕ) (d : File) → k + 1 < length files → true ≡ is_before (get_or files k d) (get_or files (k + 1) d)

rising_next : (files : List File) (k : ℕ) (d : File) → RisesInSteps files → suc k < length files → path_cmp (get_or files k d) (get_or files (suc k) d) ≡ Less
rising_next files k d rising within = less_of_test _ (rw add-one at (rising k d (omega arith)))

rising_pair : (files : List File) (i j : ℕ) (d : File) → RisesInSteps files → i < j → j < length files → path_cmp (get_or files i d) (get_or files j d) ≡ Less
rising_pair files i zero d rising below within = absurd (omega arith)
rising_pair files i (suc j) d rising below within = elim (cases_lt i j) [
  | inl before ↦ nat_list_cmp_total.trans (path_of (get_or files i d)) (path_of (get_or files j d)) (path_of (get_or files (suc j) d)) (rising_pair files i j d rising before (omega arith)) (rising_next files j d rising within)
  | inr last ↦
      let same : i ≡ j = omega arith in
      rw same (rising_next files j d rising within)
]

distinct_files : (files : List File) → Rise files → AreDistinct files
distinct_files files rise i j d below within same =
    let less = rise i j d below within in
    let tied : path_cmp (get_or files j d) (get_or files j d) ≡ Equal = tied_itself nat_list_cmp_total (path_of (get_or files j d)) in
    cc

pub files_of_rising : (files : List File) → AreRising files → AreFiles files
files_of_rising files are = record { proper = are_paths files are.proper; distinct = distinct_files files are.rise }

-- what a test of the steps tells
pub rise_decided : (files : List File) (result : Bool) → IsAllAdjacentAnswer (λ a b step. step ≡ is_before a b) files result → IsTrue result ↔ Rise files
rise_decided files true told = (λ _ i j d. rising_pair files i j d told, λ _. refl)
rise_decided [] false told = absurd (omega (arith, told.1))
rise_decided (file ∷ files) false told = (
  λ yes. absurd (true≢false (sym yes)),
  λ rise. absurd (true≢false (sym (told.2 file ∙ ap is_lt (rise told.0 (told.0 + 1) file (omega arith) told.1)))),
)

pub proper_decided : (files : List File) (result : Bool) → result ≡ list_all (λ file. is_path (path_of file)) files → IsTrue result ↔ All (λ file. IsPath (path_of file)) files
proper_decided files result told = (λ yes. proper_paths files (sym told ∙ yes), λ proper. told ∙ all_proper files proper)
