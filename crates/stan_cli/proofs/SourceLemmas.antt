-- Reading sources one after another.
use Rattle.std.proofs.Common.{◌≡◌, ℕ, ◌+◌, ◌≤◌, ◌<◌, List, [], ◌∷◌, ◌++◌, nat_lt, true, false, if◌then◌else◌, map, length, take, drop, get_or, Some, None, refl, sym, ap, subst, ◌∙◌, arith, inl, inr}
use Rattle.std.proofs.Common.{suc, drop-cons}
use Rattle.std.proofs.lemmas.List.{append-nil, append_assoc, map-append, take-append-drop}
use Rattle.std.proofs.lemmas.Bool.{lt-ltb, le-ltb, cases_lt}
use Rattle.stan_cli.specs.Project.{most_bytes, excess_from, reads_until}
use Rattle.stan_outside.specs.Outside.{Rose, RoseBy}
use Rattle.stan_cli.specs.Seen.{SeenTree}
use Rattle.stan_cli.specs.Sources.{ReadsWithin, IsTreeRefusal, IsReadRefusal}
use Rattle.stan_cli.specs.declared.refusal.Refusal.{Refusal}
use Rattle.stan_cli.specs.declared.refusal.Refusal.TheVariants.{BadWords, Limit, TreeFault, SinkFault, OutOfMemory}
use Rattle.stan_cli.specs.declared.refusal.Which.TheVariants.{Files, Bytes}

-- ---- counts

pub Rose-later : (a b c : ℕ) → a ≤ b → Rose b c → Rose a c
Rose-later a b c le (inl lt) = inl (omega arith)
Rose-later a b c le (inr e) = inr e

pub RoseBy-none : (a b : ℕ) → b ≡ a → RoseBy 0 a b
RoseBy-none a b e = omega arith

pub RoseBy-then : (m n a b c : ℕ) → RoseBy m a b → RoseBy n b c → RoseBy (m + n) a c
RoseBy-then m n a b c p q = omega arith

-- ---- sums of lengths

-- a source that still fits
pub excess_from-fits : (sum : ℕ) (source : List ℕ) (sources : List (List ℕ)) → sum + length source ≤ most_bytes → excess_from sum (source ∷ sources) ≡ excess_from (sum + length source) sources
excess_from-fits sum source sources le = rw (le-ltb most_bytes (sum + length source) le) refl

-- a source with which the limit is passed
pub excess_from-passes : (sum : ℕ) (source : List ℕ) (sources : List (List ℕ)) → most_bytes < sum + length source → excess_from sum (source ∷ sources) ≡ Some (sum + length source)
excess_from-passes sum source sources lt = rw (lt-ltb most_bytes (sum + length source) lt) refl

-- no source passes it
pub excess_from-none : (total : ℕ) (sources : List (List ℕ)) → ((rest : List (List ℕ)) → excess_from 0 (sources ++ rest) ≡ excess_from total rest) → excess_from 0 sources ≡ None
excess_from-none total sources sum = sym (ap (excess_from 0) (append-nil sources)) ∙ sum []

-- the first source with which it is passed
pub excess_from-found : {P : Type 0} (f : P → List ℕ) (paths : List P) (i total : ℕ) (d : P) (front : List (List ℕ)) (source : List ℕ) → i < length paths → front ≡ map f (take i paths) → f (get_or paths i d) ≡ source
    → ((rest : List (List ℕ)) → excess_from 0 (front ++ rest) ≡ excess_from total rest) → most_bytes < total + length source → excess_from 0 (map f paths) ≡ Some (total + length source)
excess_from-found f paths i total d front source lt e at sum passes =
    let split : map f paths ≡ front ++ (source ∷ map f (drop (suc i) paths)) =
    ap (map f) (sym (take-append-drop i paths) ∙ ap (λ rest. take i paths ++ rest) (drop-cons paths i d lt))
    ∙ map-append f (take i paths) _
    ∙ (λ j. sym e j ++ (at j ∷ map f (drop (suc i) paths))) in
    ap (excess_from 0) split ∙ sum (source ∷ map f (drop (suc i) paths)) ∙ excess_from-passes total source _ passes

-- ---- how many are read

pub reads_until-fits : (sum : ℕ) (source : List ℕ) (sources : List (List ℕ)) → sum + length source ≤ most_bytes → reads_until sum (source ∷ sources) ≡ 1 + reads_until (sum + length source) sources
reads_until-fits sum source sources le = rw (le-ltb most_bytes (sum + length source) le) refl

pub reads_until-passes : (sum : ℕ) (source : List ℕ) (sources : List (List ℕ)) → most_bytes < sum + length source → reads_until sum (source ∷ sources) ≡ 1
reads_until-passes sum source sources lt = rw (lt-ltb most_bytes (sum + length source) lt) refl

-- at least one of some
some_read : (sum : ℕ) (source : List ℕ) (sources : List (List ℕ)) → 1 ≤ reads_until sum (source ∷ sources)
some_read sum source sources = elim (nat_lt most_bytes (sum + length source)) as (λ b. 1 ≤ (if b then 1 else (1 + reads_until (sum + length source) sources))) [ true ↦ omega arith | false ↦ omega arith ]

some_is_not_none : {A : Type 0} {x : A} → Some x ≡ None → ⊥
some_is_not_none e = cc

-- all of them where no sum passes
pub all_read : (sum : ℕ) (sources : List (List ℕ)) → excess_from sum sources ≡ None → reads_until sum sources ≡ length sources
all_read sum [] none = refl
all_read sum (source ∷ sources) none =
    elim (cases_lt most_bytes (sum + length source)) [
      | inl lt ↦ absurd (some_is_not_none (sym (excess_from-passes sum source sources lt) ∙ none))
      | inr le ↦ reads_until-fits sum source sources le ∙ ap (λ n. 1 + n) (all_read (sum + length source) sources (sym (excess_from-fits sum source sources le) ∙ none)) ∙ omega arith
    ]

-- what is read from a place on, where those before it fit
reads_until-at : {P : Type 0} (f : P → List ℕ) (paths : List P) (i total : ℕ) (d : P) (front : List (List ℕ)) → i < length paths → front ≡ map f (take i paths)
    → ((rest : List (List ℕ)) → reads_until 0 (front ++ rest) ≡ i + reads_until total rest) → reads_until 0 (map f paths) ≡ i + reads_until total (f (get_or paths i d) ∷ map f (drop (suc i) paths))
reads_until-at f paths i total d front lt e until =
    let split : map f paths ≡ front ++ (f (get_or paths i d) ∷ map f (drop (suc i) paths)) =
    ap (map f) (sym (take-append-drop i paths) ∙ ap (λ rest. take i paths ++ rest) (drop-cons paths i d lt))
    ∙ map-append f (take i paths) _
    ∙ (λ j. sym e j ++ (f (get_or paths i d) ∷ map f (drop (suc i) paths))) in
    ap (reads_until 0) split ∙ until _

-- the one that is read there is among them
pub one_more_read : {P : Type 0} (f : P → List ℕ) (paths : List P) (i total : ℕ) (d : P) (front : List (List ℕ)) → i < length paths → front ≡ map f (take i paths)
    → ((rest : List (List ℕ)) → reads_until 0 (front ++ rest) ≡ i + reads_until total rest) → i + 1 ≤ reads_until 0 (map f paths)
one_more_read f paths i total d front lt e until = omega (arith, reads_until-at f paths i total d front lt e until, some_read total (f (get_or paths i d)) (map f (drop (suc i) paths)))

-- with it the limit is passed
pub last_read : {P : Type 0} (f : P → List ℕ) (paths : List P) (i total : ℕ) (d : P) (front : List (List ℕ)) → i < length paths → front ≡ map f (take i paths)
    → ((rest : List (List ℕ)) → reads_until 0 (front ++ rest) ≡ i + reads_until total rest) → most_bytes < total + length (f (get_or paths i d)) → reads_until 0 (map f paths) ≡ i + 1
last_read f paths i total d front lt e until passes = reads_until-at f paths i total d front lt e until ∙ ap (λ n. i + n) (reads_until-passes total (f (get_or paths i d)) _ passes)

-- one source more, which fits
pub until_more : {P : Type 0} (f : P → List ℕ) (items : List P) (x : P) (i total : ℕ) → ((rest : List (List ℕ)) → reads_until 0 (map f items ++ rest) ≡ i + reads_until total rest) → total + length (f x) ≤ most_bytes
    → (rest : List (List ℕ)) → reads_until 0 (map f (items ++ x ∷ []) ++ rest) ≡ (i + 1) + reads_until (total + length (f x)) rest
until_more f items x i total until le rest =
    let joined : map f (items ++ x ∷ []) ++ rest ≡ map f items ++ (f x ∷ rest) = ap (λ those. those ++ rest) (map-append f items (x ∷ [])) ∙ append_assoc (map f items) (f x ∷ []) rest in
    ap (reads_until 0) joined ∙ until (f x ∷ rest) ∙ ap (λ n. i + n) (reads_until-fits total (f x) rest le) ∙ omega arith

-- a refusal of one file, behind others
pub read_refusal-one : (old mid : SeenTree) (sources : List (List ℕ)) → (old.never_fails → mid.never_fails) → old.faults ≤ mid.faults → mid.faults_after ≡ old.faults_after → ReadsWithin sources old
    → (refusal : Refusal) → IsTreeRefusal mid refusal → IsReadRefusal old sources refusal
read_refusal-one old mid sources never le last within (BadWords part) h = h
read_refusal-one old mid sources never le last within (Limit Files counted) h = h
read_refusal-one old mid sources never le last within (Limit Bytes counted) h = absurd h
read_refusal-one old mid sources never le last within TreeFault h = (subst (λ after. Rose old.faults after) last (Rose-later old.faults mid.faults mid.faults_after le h.0), λ x. h.1 (never x), within)
read_refusal-one old mid sources never le last within SinkFault h = h
read_refusal-one old mid sources never le last within OutOfMemory h = within
