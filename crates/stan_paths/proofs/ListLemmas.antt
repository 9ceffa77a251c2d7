-- Lists of paths: their order, their joined parts, and what a filter keeps of them.
use Rattle.std.proofs.Common.{◌≡◌, ℕ, zero, suc, ◌<◌, List, [], ◌∷◌, ◌++◌, map, length, get_or, Bool, true, false, cond, refl, sym, ap, subst, ◌⊎◌, inl, inr, ⊎_elim, arith}
use Rattle.std.proofs.lemmas.List.{append-nil}
use Rattle.std.specs.Ordering.{nat_cmp}
use Rattle.std.specs.Cmp.Lexicographic.{slice_cmp}
use Rattle.std.specs.FinMap.{IsAntisymmetric, nat_cmp-IsAntisymmetric, slice_cmp-IsAntisymmetric}
use Rattle.std.specs.List.{Contains, filter, join_by, join_with_byte}

pub path_cmp-IsAntisymmetric : IsAntisymmetric (slice_cmp nat_cmp)
path_cmp-IsAntisymmetric = slice_cmp-IsAntisymmetric nat_cmp-IsAntisymmetric

-- parts joined by a text of one byte
pub join_by_texts : {X : Type 0} (f : X → List ℕ) (byte : ℕ) (xs : List X) → join_by f (byte ∷ []) xs ≡ join_with_byte byte (map f xs)
join_by_texts f byte [] = refl
join_by_texts f byte (x ∷ []) = append-nil (f x)
join_by_texts f byte (x ∷ y ∷ xs) = ap (λ rest. f x ++ (byte ∷ rest)) (join_by_texts f byte (y ∷ xs))

-- ---- what a filter keeps

here : {X : Type 0} (x : X) (xs : List X) → Contains (x ∷ xs) x
here x xs = (0, omega arith, refl)

there : {X : Type 0} (x : X) (xs : List X) (y : X) → Contains xs y → Contains (x ∷ xs) y
there x xs y h = let lt : h.0 < length xs = h.1 in (suc h.0, omega arith, h.2)

first_or_later : {X : Type 0} (x : X) (xs : List X) (y : X) (k : ℕ) → k < length (x ∷ xs) → get_or (x ∷ xs) k y ≡ y → (x ≡ y) ⊎ Contains xs y
first_or_later x xs y zero lt e = inl e
first_or_later x xs y (suc k) lt e = inr (k, omega arith, e)

module _ {X : Type 0} (p : X → Bool) where
  pub Contains-filter : (xs : List X) (y : X) → Contains xs y → p y ≡ true → Contains (filter p xs) y
  Contains-filter [] y h e = absurd (let lt : h.0 < length {A = X} [] = h.1 in omega arith)
  Contains-filter (x ∷ xs) y h e =
      ⊎_elim (λ same. subst (λ z. Contains (filter p (z ∷ xs)) y) (sym same) (rw e (here y (filter p xs))))
      (λ later. elim (p x) as (λ b. Contains (cond b (x ∷ filter p xs) (filter p xs)) y) [ true ↦ there x (filter p xs) y (Contains-filter xs y later e) | false ↦ Contains-filter xs y later e ])
      (first_or_later x xs y h.0 h.1 h.2)

  pub passes_from_filter : (xs : List X) (y : X) → Contains (filter p xs) y → Contains xs y × (p y ≡ true)
  passes_from_filter [] y h = absurd (let lt : h.0 < length {A = X} [] = h.1 in omega arith)
  passes_from_filter (x ∷ xs) y h =
      elim (p x) as (λ b. p x ≡ b → Contains (cond b (x ∷ filter p xs) (filter p xs)) y → Contains (x ∷ xs) y × (p y ≡ true)) [
        | true ↦ λ e k. ⊎_elim (λ same. (subst (Contains (x ∷ xs)) same (here x xs), subst (λ z. p z ≡ true) same e)) (λ later. let r = passes_from_filter xs y later in (there x xs y r.0, r.1)) (first_or_later x (filter p xs) y k.0 k.1 k.2)
        | false ↦ λ e k. let r = passes_from_filter xs y k in (there x xs y r.0, r.1)
      ] refl h
