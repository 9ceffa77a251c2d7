-- Faults that are sorted and freed of repeats, and those that a test keeps.
use Rattle.std.proofs.Common.{◌≡◌, List, [], ◌∷◌, Bool, true, false, map, refl, ap, ◌∙◌, cond, rules}
use Rattle.std.specs.Ordering.{eq_by_cmp}
use Rattle.std.specs.List.{dedup, filter}
use Rattle.std.specs.Cmp.Lexicographic.{texts_ties}
use Rattle.std.specs.List.Retain.{IsFiltered, DiffersFromLast}
use Rattle.std.specs.List.Sorted.{IsSorted, IsPermutation}
use Rattle.std.proofs.lemmas.List.Filters.{dedup_is}
use Rattle.stan_model_verdict.specs.Fault.{fault_cmp, in_order}
use Rattle.stan_analyst.proofs.FaultOrder.{fault_cmp_total, fault_cmp-IsAntisymmetric, in_order_is}
use Rattle.stan_base.proofs.SortLemmas.{IsStrictlySortedBy-sorted_once, Contains-sorted_once, Contains-from_sorted_once}
use Rattle.stan_analyst.specs.declared.verdict.Fault.{Fault}
use Rattle.stan_analyst.specs.contracts.verdict.FaultPartialEq.TheImpl as equality
use Rattle.stan_analyst.specs.Verdict.{fault_of}

-- the program's order of faults answers `Equal` where its test of equality passes
ties : (x y : Fault) → (equality.ghosts).eq x y ≡ eq_by_cmp fault_cmp (fault_of x) (fault_of y)
ties x y = search (rules, texts_ties)

pub in_order-sorted : (xs ys zs : List Fault) → IsPermutation xs ys → IsSorted (λ x y. fault_cmp (fault_of x) (fault_of y)) ys → IsFiltered (DiffersFromLast (equality.ghosts).eq) [] ys zs
    → map fault_of zs ≡ in_order (map fault_of xs)
in_order-sorted xs ys zs moved sorted filtered =
    let E : Fault → Fault → Bool = (equality.ghosts).eq in
    ap (map fault_of) (dedup_is E ys zs filtered)
    ∙ in_order_is (map fault_of xs) (map fault_of (dedup E ys))
    (IsStrictlySortedBy-sorted_once fault_of fault_cmp_total fault_cmp-IsAntisymmetric E ties xs ys moved sorted)
    (Contains-sorted_once fault_of fault_cmp_total fault_cmp-IsAntisymmetric E ties xs ys moved)
    (Contains-from_sorted_once fault_of fault_cmp_total fault_cmp-IsAntisymmetric E ties xs ys moved)

kept_through : {A B : Type 0} (f : A → B) (b : Bool) (x : A) (xs : List A) → map f (cond b (x ∷ xs) xs) ≡ cond b (f x ∷ map f xs) (map f xs)
kept_through f true x xs = refl
kept_through f false x xs = refl

pub filter_through : {A B : Type 0} (f : A → B) (p : B → Bool) (xs : List A) → map f (filter (λ x. p (f x)) xs) ≡ filter p (map f xs)
filter_through f p [] = refl
filter_through f p (x ∷ xs) = kept_through f (p (f x)) x (filter (λ y. p (f y)) xs) ∙ ap (λ rest. cond (p (f x)) (f x ∷ rest) rest) (filter_through f p xs)
