-- Lists in strict order: their members determine them.
use Rattle.std.proofs.Common.{◌≡◌, Bool, true, false, cond, List, [], ◌∷◌, map, Option, Some, None, refl, sym, ap, subst, ◌∙◌}
use Rattle.std.specs.Prelude.{T, ◌&&◌, ◌↔◌, IsTrue, is_some}
use Rattle.std.specs.Option.{IsSome}
use Rattle.std.specs.declared.cmp.Ordering.{Ordering}
use Rattle.std.specs.declared.cmp.Ordering.TheVariants.{Less, Equal, Greater}
use Rattle.std.specs.Ordering.{is_lt, eq_by_cmp}
use Rattle.std.specs.Cmp.{IsTotalOrder, eq_by_cmp_equiv}
use Rattle.std.specs.List.{Contains, AllByRecursion, list_any}
use Rattle.std.specs.List.Sorted.{IsStrictlySortedBy}
use Rattle.std.specs.FinMap as finite
use Rattle.std.specs.FinMap.{IsAntisymmetric}
use Rattle.std.specs.FinMap.Entries.{find, below_all, is_sorted, where_key, is_some-find, find-where_key, same_entries}
use Rattle.std.proofs.lemmas.Map.Keys.{sorted_head, sorted_tail}
use Rattle.std.proofs.lemmas.Map.Views.{Contains-from_any, list_any-from_Contains, tells_apart}
use Rattle.std.proofs.lemmas.Bool.{false≢true}

-- ---- tests

both_true : (a b : Bool) → T a → T b → T (a && b)
both_true true b p q = q
both_true false b p q = absurd p

first_true : (a b : Bool) → T (a && b) → T a
first_true true b p = tt
first_true false b p = p

second_true : (a b : Bool) → T (a && b) → T b
second_true true b p = p
second_true false b p = absurd p

is_less : (o : Ordering) → T (is_lt o) → o ≡ Less
is_less Less p = refl
is_less Equal p = absurd p
is_less Greater p = absurd p

pub same_test : (a b : Bool) → (a ≡ true → b ≡ true) → (b ≡ true → a ≡ true) → a ≡ b
same_test true b f g = sym (f refl)
same_test false true f g = g refl
same_test false false f g = refl

-- a value that is kept where a test passes
kept_both : {X : Type 0} (b : Bool) (x : Option X) → IsSome (cond b x None) → IsSome x × IsTrue b
kept_both true x h = (h, refl)
kept_both false x h = absurd (false≢true h)

-- what a place that holds no value shows of it
marked : Bool → Option (Unit {0})
marked b = cond b (Some tt) None

marks : (x : Option (Unit {0})) → x ≡ marked (is_some x)
unfolding marked
marks None = refl
marks (Some u) = refl

-- ---- keys alone, as entries with nothing

abbrev units : {K : Type 0} → List K → List (K × Unit {0})
units xs = map (λ x. (x, tt {0})) xs

keys_of-units : {K : Type 0} (xs : List K) → map (λ e. e.0) (units xs) ≡ xs
keys_of-units [] = refl
keys_of-units (x ∷ xs) = ap (λ ks. x ∷ ks) (keys_of-units xs)

module _ {K : Type 0} (R : K → K → Ordering) where
  below_all-units : (x : K) (ys : List K) → AllByRecursion (λ y. R x y ≡ Less) ys → T (below_all R x (units ys))
  below_all-units x [] h = tt
  below_all-units x (y ∷ ys) h = both_true _ _ (subst (λ o. T (is_lt o)) (sym h.0) tt) (below_all-units x ys h.1)

  is_sorted-units : (xs : List K) → IsStrictlySortedBy R xs → T (is_sorted R (units xs))
  is_sorted-units [] h = tt
  is_sorted-units (x ∷ xs) h = both_true _ _ (below_all-units x xs (sorted_head R x xs h)) (is_sorted-units xs (sorted_tail R x xs h))

  below_keys : {X : Type 0} (x : K) (es : List (K × X)) → T (below_all R x es) → AllByRecursion (λ y. R x y ≡ Less) (map (λ e. e.0) es)
  below_keys x [] h = tt
  below_keys x (e ∷ es) h = (is_less _ (first_true _ _ h), below_keys x es (second_true _ _ h))

  -- the keys of entries in order
  pub IsStrictlySortedBy-keys : {X : Type 0} (es : List (K × X)) → T (is_sorted R es) → IsStrictlySortedBy R (map (λ e. e.0) es)
  unfolding IsStrictlySortedBy
  IsStrictlySortedBy-keys [] h = tt
  IsStrictlySortedBy-keys (e ∷ es) h = (below_keys e.0 es (first_true _ _ h), IsStrictlySortedBy-keys es (second_true _ _ h))

  -- the members of a list in order, each once
  abbrev pub members_in_order : List K → List K
  members_in_order xs = finite.keys (finite.from_entries {R = R} (map (λ x. (x, tt {0})) xs))

-- the keys of a map, and so the members of a set of keys
pub items-sorted : {K X : Type 0} {R : K → K → Ordering} (m : finite.FinMap R X) → IsStrictlySortedBy R (map (λ e. e.0) (finite.entries m))
items-sorted {R = R} m = IsStrictlySortedBy-keys R (finite.entries m) (finite.entries_sorted m)

module _ {K : Type 0} {R : K → K → Ordering} (o : IsTotalOrder R) (a : IsAntisymmetric R) where
  -- a test by the order finds what a list contains
  pub Contains-from_found : (ks : List K) (k : K) → list_any (eq_by_cmp R k) ks ≡ true → Contains ks k
  Contains-from_found ks k h = Contains-from_any (tells_apart a) k ks h

  pub found-from_Contains : (ks : List K) (k : K) → Contains ks k → list_any (eq_by_cmp R k) ks ≡ true
  found-from_Contains ks k h = list_any-from_Contains (eq_by_cmp_equiv o) k ks h

  found_alike : (xs ys : List K) → ((x : K) → Contains xs x → Contains ys x) → ((x : K) → Contains ys x → Contains xs x) → (k : K) → list_any (eq_by_cmp R k) xs ≡ list_any (eq_by_cmp R k) ys
  found_alike xs ys f g k = same_test _ _ (λ h. found-from_Contains ys k (f k (Contains-from_found xs k h))) (λ h. found-from_Contains xs k (g k (Contains-from_found ys k h)))

  is_some-find_units : (xs : List K) (k : K) → is_some (find R k (units xs)) ≡ list_any (eq_by_cmp R k) xs
  is_some-find_units xs k = is_some-find R k (units xs) ∙ ap (list_any (eq_by_cmp R k)) (keys_of-units xs)

  -- two lists in strict order with the same members are equal
  pub strictly_sorted_unique : (xs ys : List K) → IsStrictlySortedBy R xs → IsStrictlySortedBy R ys → ((x : K) → Contains xs x → Contains ys x) → ((x : K) → Contains ys x → Contains xs x) → xs ≡ ys
  strictly_sorted_unique xs ys p q f g =
      let same : (k : K) → find R k (units xs) ≡ find R k (units ys) = λ k. marks _ ∙ ap marked (is_some-find_units xs k ∙ found_alike xs ys f g k ∙ sym (is_some-find_units ys k)) ∙ sym (marks _) in
      sym (keys_of-units xs) ∙ ap (map (λ e. e.0)) (same_entries R o a (units xs) (units ys) (is_sorted-units R xs p) (is_sorted-units R ys q) same) ∙ keys_of-units ys

  -- ---- members of sets and keys of maps

  -- the keys that pass a test
  pub IsSome-where_key : {X : Type 0} (m : finite.FinMap R X) (p : K → Bool) (k : K) → IsSome (find R k (where_key R p (finite.entries m))) ↔ (IsSome (finite.get m k) × IsTrue (p k))
  IsSome-where_key m p k =
      let at : find R k (where_key R p (finite.entries m)) ≡ cond (p k) (finite.get m k) None =
      find-where_key R p k (λ x e. ap p (sym (a k x e))) (finite.entries m) ∙ ap (λ x. cond (p k) x None) (sym (finite.get-entries m k))
      in
      (λ h. kept_both _ _ (ap is_some (sym at) ∙ h), λ h. ap is_some (at ∙ ap (λ b. cond b (finite.get m k) None) h.1) ∙ h.0)

  pub Contains-where_key : {X : Type 0} (m : finite.FinMap R X) (p : K → Bool) (k : K) → Contains (map (λ e. e.0) (where_key R p (finite.entries m))) k ↔ (IsSome (finite.get m k) × IsTrue (p k))
  Contains-where_key m p k =
      let here = is_some-find R k (where_key R p (finite.entries m)) in
      (λ h. (IsSome-where_key m p k).0 (here ∙ found-from_Contains _ k h), λ h. Contains-from_found _ k (sym here ∙ (IsSome-where_key m p k).1 h))

  found-members_in_order : (xs : List K) (x : K) → list_any (eq_by_cmp R x) (members_in_order R xs) ≡ list_any (eq_by_cmp R x) xs
  found-members_in_order xs x = sym (finite.contains_key-keys (finite.from_entries {R = R} (units xs)) x) ∙ ap is_some (finite.get-from_entries o (units xs) x) ∙ is_some-find_units xs x

  pub Contains-members_in_order : (xs : List K) (x : K) → Contains (members_in_order R xs) x ↔ Contains xs x
  Contains-members_in_order xs x =
      let same = found-members_in_order xs x in
      (λ h. Contains-from_found xs x (sym same ∙ found-from_Contains _ x h), λ h. Contains-from_found _ x (same ∙ found-from_Contains xs x h))

  -- a list in strict order with the members of another
  pub members_in_order_are : (xs ys : List K) → IsStrictlySortedBy R ys → ((x : K) → Contains xs x → Contains ys x) → ((x : K) → Contains ys x → Contains xs x) → ys ≡ members_in_order R xs
  members_in_order_are xs ys p f g =
      strictly_sorted_unique ys _ p (items-sorted _) (λ x h. (Contains-members_in_order xs x).1 (g x h)) (λ x h. f x ((Contains-members_in_order xs x).0 h))

  pub members_in_order_alike : (xs ys : List K) → ((x : K) → Contains xs x → Contains ys x) → ((x : K) → Contains ys x → Contains xs x) → members_in_order R xs ≡ members_in_order R ys
  members_in_order_alike xs ys f g =
      members_in_order_are ys _ (items-sorted _) (λ x h. (Contains-members_in_order xs x).1 (g x h)) (λ x h. f x ((Contains-members_in_order xs x).0 h))
