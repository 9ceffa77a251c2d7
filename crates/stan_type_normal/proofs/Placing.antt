-- Where an item goes into a list in order, seen from the place that a walk has come to.
use Rattle.std.proofs.Common.{◌≡◌, ℕ, List, [], ◌∷◌, ◌++◌, ◌+◌, ◌<◌, ◌≤◌, map, length, get_or, take, drop, suc, refl, ap, sym, ◌∙◌, arith, append_assoc, append-nil, add-one, take-append-drop, drop-cons}
use Rattle.std.specs.declared.cmp.Ordering.{Ordering}
use Rattle.std.specs.declared.cmp.Ordering.TheVariants.{Less, Equal, Greater}
use Rattle.std.specs.Prelude.{insert}
use Rattle.std.specs.List.{take-map, drop-map}
use Rattle.std.specs.Ordering.{match_ordering, ordering_then, nat_cmp}
use Rattle.std.specs.Cmp.Lexicographic.{slice_cmp}
use Rattle.std.proofs.lemmas.List.{drop_all, map-append, take_all, take_more}
use Rattle.std.proofs.Math.ListN.{get_or-map}
use Rattle.stan_base.specs.declared.name.Name.{Name}
use Rattle.stan_base.specs.Name.{name_bytes}
use Rattle.stan_model_types.specs.Types as model
use Rattle.stan_model_types.specs.NormalForms.{put, put_all}
use Rattle.stan_model_types.specs.TypeBytes.{part_bytes, part_order}
use Rattle.stan_type_parts.specs.declared.part.Part.{Part}
use Rattle.stan_type_parts.specs.Parts.{part_of}
use Rattle.stan_type_order.specs.Order.{Decides}

ordering_then-equal : (o : Ordering) → ordering_then o Equal ≡ o
ordering_then-equal Less = refl
ordering_then-equal Equal = refl
ordering_then-equal Greater = refl

-- the answer that decides between two parts is their order
pub order_is : (o : Ordering) (p q : model.Part) → Decides o (part_bytes p) (part_bytes q) → part_order p q ≡ o
order_is o p q d =
    ap (λ bs. slice_cmp nat_cmp bs (part_bytes q)) (sym (append-nil (part_bytes p))) ∙ ap (slice_cmp nat_cmp (part_bytes p ++ [])) (sym (append-nil (part_bytes q)))
    ∙ d [] [] ∙ ordering_then-equal o

module _ {X : Type 0} (order : X → X → Ordering) where
  at_place : (p : X) (qs : List X) (i : ℕ) (d : X) → i < length qs → put order p qs ≡ take i qs ++ put order p (drop i qs)
      → put order p qs ≡ take i qs ++ match_ordering (order p (get_or qs i d)) (p ∷ get_or qs i d ∷ drop (suc i) qs) (get_or qs i d ∷ drop (suc i) qs) (get_or qs i d ∷ put order p (drop (suc i) qs))
  at_place p qs i d lt so = so ∙ ap (λ zs. take i qs ++ put order p zs) (drop-cons qs i d lt)

  chosen : (p : X) (qs : List X) (i : ℕ) (d : X) (o : Ordering) → i < length qs → order p (get_or qs i d) ≡ o → put order p qs ≡ take i qs ++ put order p (drop i qs)
      → put order p qs ≡ take i qs ++ match_ordering o (p ∷ get_or qs i d ∷ drop (suc i) qs) (get_or qs i d ∷ drop (suc i) qs) (get_or qs i d ∷ put order p (drop (suc i) qs))
  chosen p qs i d o lt e so =
      at_place p qs i d lt so
      ∙ ap (λ k. take i qs ++ match_ordering k (p ∷ get_or qs i d ∷ drop (suc i) qs) (get_or qs i d ∷ drop (suc i) qs) (get_or qs i d ∷ put order p (drop (suc i) qs))) e

  -- the item at a place is greater
  pub put_here : (p : X) (qs : List X) (i : ℕ) (d : X) → i < length qs → order p (get_or qs i d) ≡ Less → put order p qs ≡ take i qs ++ put order p (drop i qs) → put order p qs ≡ take i qs ++ p ∷ drop i qs
  put_here p qs i d lt e so = chosen p qs i d Less lt e so ∙ ap (λ zs. take i qs ++ p ∷ zs) (sym (drop-cons qs i d lt))

  -- it is equal
  pub put_not : (p : X) (qs : List X) (i : ℕ) (d : X) → i < length qs → order p (get_or qs i d) ≡ Equal → put order p qs ≡ take i qs ++ put order p (drop i qs) → put order p qs ≡ qs
  put_not p qs i d lt e so = chosen p qs i d Equal lt e so ∙ ap (λ zs. take i qs ++ zs) (sym (drop-cons qs i d lt)) ∙ take-append-drop i qs

  -- it is below
  pub put_behind : (p : X) (qs : List X) (i : ℕ) (d : X) → i < length qs → order p (get_or qs i d) ≡ Greater → put order p qs ≡ take i qs ++ put order p (drop i qs) → put order p qs ≡ take (i + 1) qs ++ put order p (drop (i + 1) qs)
  put_behind p qs i d lt e so =
      chosen p qs i d Greater lt e so
      ∙ sym (append_assoc (take i qs) (get_or qs i d ∷ []) (put order p (drop (suc i) qs)))
      ∙ ap (λ zs. zs ++ put order p (drop (suc i) qs)) (sym (take_more qs i d lt))
      ∙ ap (λ k. take (i + 1) qs ++ put order p (drop k qs)) (sym (add-one i))

  pub put_last : (p : X) (qs : List X) (i : ℕ) → length qs ≤ i → put order p qs ≡ take i qs ++ put order p (drop i qs) → put order p qs ≡ take (length qs) qs ++ p ∷ drop (length qs) qs
  put_last p qs i le so =
      so ∙ ap (λ zs. take i qs ++ put order p zs) (drop_all i qs le) ∙ ap (λ zs. zs ++ p ∷ []) (take_all i qs le ∙ sym (take_all (length qs) qs (omega arith)))
      ∙ ap (λ zs. take (length qs) qs ++ p ∷ zs) (sym (drop_all (length qs) qs (omega arith)))

pub put_all-append : {X : Type 0} (order : X → X → Ordering) (xs ys acc : List X) → put_all order (xs ++ ys) acc ≡ put_all order ys (put_all order xs acc)
put_all-append order [] ys acc = refl
put_all-append order (x ∷ xs) ys acc = put_all-append order xs ys (put order x acc)

pub put_all-push : {X : Type 0} (order : X → X → Ordering) (xs : List X) (x : X) (acc : List X) → put_all order (xs ++ x ∷ []) acc ≡ put order x (put_all order xs acc)
put_all-push order xs x acc = put_all-append order xs (x ∷ []) acc

-- ---- parts

-- the item at a place, seen through a view
pub seen_at : {A B : Type 0} (g : A → B) (xs : List A) (i : ℕ) (x : A) → x ≡ get_or xs i x → g x ≡ get_or (map g xs) i (g x)
seen_at g xs i x e = ap g e ∙ sym (get_or-map g xs i x)

pub length-map : {A B : Type 0} (g : A → B) (xs : List A) → length (map g xs) ≡ length xs
length-map g [] = refl
length-map g (x ∷ xs) = ap suc (length-map g xs)

module _ (p : model.Part) (out : List Part) (i : ℕ) (x : Part) (lt : i < length out) (e : x ≡ get_or out i x)
    (so : put part_order p (map part_of out) ≡ take i (map part_of out) ++ put part_order p (drop i (map part_of out))) where
  within_seen : i < length (map part_of out)
  within_seen = omega (arith, length-map part_of out)

  order_at : (o : Ordering) → Decides o (part_bytes p) (part_bytes (part_of x)) → part_order p (get_or (map part_of out) i (part_of x)) ≡ o
  order_at o d = ap (part_order p) (sym (seen_at part_of out i x e)) ∙ order_is o p (part_of x) d

  pub part_here : Decides Less (part_bytes p) (part_bytes (part_of x)) → put part_order p (map part_of out) ≡ take i (map part_of out) ++ p ∷ drop i (map part_of out)
  part_here d = put_here part_order p (map part_of out) i (part_of x) within_seen (order_at Less d) so

  pub part_not : Decides Equal (part_bytes p) (part_bytes (part_of x)) → put part_order p (map part_of out) ≡ map part_of out
  part_not d = put_not part_order p (map part_of out) i (part_of x) within_seen (order_at Equal d) so

  pub part_behind : Decides Greater (part_bytes p) (part_bytes (part_of x)) → put part_order p (map part_of out) ≡ take (i + 1) (map part_of out) ++ put part_order p (drop (i + 1) (map part_of out))
  part_behind d = put_behind part_order p (map part_of out) i (part_of x) within_seen (order_at Greater d) so

pub part_last : (p : model.Part) (out : List Part) (i : ℕ) → length out ≤ i → put part_order p (map part_of out) ≡ take i (map part_of out) ++ put part_order p (drop i (map part_of out))
    → put part_order p (map part_of out) ≡ take (length out) (map part_of out) ++ p ∷ drop (length out) (map part_of out)
part_last p out i le so =
    let same = length-map part_of out in
    put_last part_order p (map part_of out) i (omega (arith, same)) so
    ∙ ap (λ n. take n (map part_of out) ++ p ∷ drop n (map part_of out)) same

-- an item put in, seen through a view
pub map-insert : {A B : Type 0} (g : A → B) (xs : List A) (i : ℕ) (x : A) → map g (insert xs i x) ≡ take i (map g xs) ++ g x ∷ drop i (map g xs)
map-insert g xs i x =
    map-append g (take i xs) (x ∷ drop i xs) ∙ ap (λ ys. ys ++ g x ∷ map g (drop i xs)) (sym (take-map g i xs)) ∙ ap (λ ys. take i (map g xs) ++ g x ∷ ys) (sym (drop-map g i xs))

-- ---- names

module _ (name : List ℕ) (names : List Name) (i : ℕ) (x : Name) (lt : i < length names) (e : x ≡ get_or names i x)
    (so : put (slice_cmp nat_cmp) name (map name_bytes names) ≡ take i (map name_bytes names) ++ put (slice_cmp nat_cmp) name (drop i (map name_bytes names))) where
  among_seen : i < length (map name_bytes names)
  among_seen = omega (arith, length-map name_bytes names)

  name_order_at : (o : Ordering) → o ≡ slice_cmp nat_cmp name (name_bytes x) → slice_cmp nat_cmp name (get_or (map name_bytes names) i (name_bytes x)) ≡ o
  name_order_at o d = ap (slice_cmp nat_cmp name) (sym (seen_at name_bytes names i x e)) ∙ sym d

  pub name_here : Less ≡ slice_cmp nat_cmp name (name_bytes x) → put (slice_cmp nat_cmp) name (map name_bytes names) ≡ take i (map name_bytes names) ++ name ∷ drop i (map name_bytes names)
  name_here d = put_here (slice_cmp nat_cmp) name (map name_bytes names) i (name_bytes x) among_seen (name_order_at Less d) so

  pub name_not : Equal ≡ slice_cmp nat_cmp name (name_bytes x) → put (slice_cmp nat_cmp) name (map name_bytes names) ≡ map name_bytes names
  name_not d = put_not (slice_cmp nat_cmp) name (map name_bytes names) i (name_bytes x) among_seen (name_order_at Equal d) so

  pub name_behind : Greater ≡ slice_cmp nat_cmp name (name_bytes x) → put (slice_cmp nat_cmp) name (map name_bytes names) ≡ take (i + 1) (map name_bytes names) ++ put (slice_cmp nat_cmp) name (drop (i + 1) (map name_bytes names))
  name_behind d = put_behind (slice_cmp nat_cmp) name (map name_bytes names) i (name_bytes x) among_seen (name_order_at Greater d) so
