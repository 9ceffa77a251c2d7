-- A list that is sorted and freed of repeats, seen through a view of its items.
use Rattle.std.proofs.Common.{◌≡◌, ◌<◌, Bool, true, List, [], ◌∷◌, map, length, get_or, sym, ap, subst, ◌∙◌, arith}
use Rattle.std.specs.declared.cmp.Ordering.{Ordering}
use Rattle.std.specs.declared.cmp.Ordering.TheVariants.{Less}
use Rattle.std.specs.Ordering.{eq_by_cmp}
use Rattle.std.specs.Cmp.{IsTotalOrder, IsEquivalence, eq_by_cmp_equiv, on_total, on_equiv}
use Rattle.std.specs.FinMap.{IsAntisymmetric}
use Rattle.std.specs.List.{Contains, AllByRecursion, dedup}
use Rattle.std.specs.List.Sorted.{IsStrictlySortedBy, IsSorted, IsPermutation}
use Rattle.std.proofs.lemmas.List.{get_or-map, length-map}
use Rattle.std.proofs.lemmas.List.Elements.{Contains-get_or}
use Rattle.std.proofs.lemmas.Map.Views.{tells_apart}
use Rattle.std.proofs.lemmas.List.Kept.{IsStrictlySortedBy-dedup, Any-dedup, Contains-from_dedup}
use Rattle.std.proofs.lemmas.List.Sorted.{Contains-permutation, IsPermutation-sym}

equal_keys : {K : Type 0} {R : K → K → Ordering} → IsAntisymmetric R → (x y : K) → eq_by_cmp R x y ≡ true → x ≡ y
equal_keys a x y e = tells_apart a x y e

-- a test that answers as an order on views does
ties_equiv : {X K : Type 0} (f : X → K) {R : K → K → Ordering} (o : IsTotalOrder R) (E : X → X → Bool) → ((x y : X) → E x y ≡ eq_by_cmp R (f x) (f y)) → IsEquivalence E
ties_equiv f {R = R} o E ties = subst IsEquivalence (λ i x y. sym (ties x y) i) (on_equiv f (eq_by_cmp_equiv o))

module _ {X K : Type 0} (f : X → K) where
  pub Contains-map : (xs : List X) (x : X) → Contains xs x → Contains (map f xs) (f x)
  Contains-map xs x h =
      let lt : h.0 < length (map f xs) = rw length-map (h.1) in
      (h.0, lt, get_or-map f xs h.0 x (f x) h.1 ∙ ap f h.2)

  -- an item of a view is the view of an item
  pub item_from_Contains-map : (xs : List X) (y : K) → Contains (map f xs) y → (x : X) × Contains xs x × (f x ≡ y)
  item_from_Contains-map [] y h = absurd (omega (arith, h.1))
  item_from_Contains-map (x ∷ xs) y h =
      let lt : h.0 < length (x ∷ xs) = rw length-map at h.1 in
      (get_or (x ∷ xs) h.0 x, Contains-get_or (x ∷ xs) h.0 x lt, sym (get_or-map f (x ∷ xs) h.0 x y lt) ∙ h.2)

  all_below-map : (R : K → K → Ordering) (x : X) (xs : List X) → AllByRecursion (λ y. R (f x) (f y) ≡ Less) xs → AllByRecursion (λ y. R (f x) y ≡ Less) (map f xs)
  all_below-map R x [] h = tt
  all_below-map R x (y ∷ ys) h = (h.0, all_below-map R x ys h.1)

  pub IsStrictlySortedBy-map : (R : K → K → Ordering) (xs : List X) → IsStrictlySortedBy (λ x y. R (f x) (f y)) xs → IsStrictlySortedBy R (map f xs)
  unfolding IsStrictlySortedBy
  IsStrictlySortedBy-map R [] h = tt
  IsStrictlySortedBy-map R (x ∷ xs) h = (all_below-map R x xs h.0, IsStrictlySortedBy-map R xs h.1)

  module _ {R : K → K → Ordering} (o : IsTotalOrder R) (a : IsAntisymmetric R) (E : X → X → Bool) (ties : (x y : X) → E x y ≡ eq_by_cmp R (f x) (f y)) (xs ys : List X) (moved : IsPermutation xs ys) where
    -- what a sort and a `dedup` leave is in strict order
    pub IsStrictlySortedBy-sorted_once : IsSorted (λ x y. R (f x) (f y)) ys → IsStrictlySortedBy R (map f (dedup E ys))
    IsStrictlySortedBy-sorted_once sorted = IsStrictlySortedBy-map R _ (IsStrictlySortedBy-dedup (on_total f o) ties ys sorted)

    same_key : (x y : X) → E x y ≡ true → f x ≡ f y
    same_key x y e = equal_keys a (f x) (f y) (sym (ties x y) ∙ e)

    -- and has the same items
    pub Contains-sorted_once : (k : K) → Contains (map f xs) k → Contains (map f (dedup E ys)) k
    Contains-sorted_once k h =
        let x = item_from_Contains-map xs k h in
        let kept = Any-dedup (ties_equiv f o E ties) ys x.0 (Contains-permutation xs ys x.0 moved x.1) in
        let there : Contains (dedup E ys) kept.1 = (kept.0, kept.2, kept.3) in
        subst (Contains (map f (dedup E ys))) (sym (same_key x.0 kept.1 kept.4) ∙ x.2) (Contains-map (dedup E ys) kept.1 there)

    pub Contains-from_sorted_once : (k : K) → Contains (map f (dedup E ys)) k → Contains (map f xs) k
    Contains-from_sorted_once k h =
        let x = item_from_Contains-map (dedup E ys) k h in
        subst (Contains (map f xs)) x.2 (Contains-map xs x.0 (Contains-permutation ys xs x.0 (IsPermutation-sym xs ys moved) (Contains-from_dedup E ys x.0 x.1)))
