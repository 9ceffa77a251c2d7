-- Lists of parts, one more at a time.
use Rattle.std.proofs.Common.{◌≡◌, ℕ, zero, suc, ◌+◌, ◌<◌, Bool, true, false, cond, List, [], ◌∷◌, ◌++◌, length, map, get_or, take, refl, ap, sym, subst, ◌∙◌, arith, append-nil, append_assoc}
use Rattle.std.specs.Prelude.{filter}
use Rattle.std.specs.List.{flat_map}
use Rattle.stan_model_types.specs.Types as model
use Rattle.stan_model_types.specs.NormalForms.{normal, normal_within}
use Rattle.stan_type_laws.specs.Settled.{HasNumbers, HaveNumbers}
use Rattle.stan_type_parts.specs.declared.part.Part.{Part}
use Rattle.stan_type_parts.specs.Parts.{part_of}
use Rattle.stan_type_parts.proofs.Steps.{map_more}

flat_map-push : {A B : Type 0} (f : A → List B) (xs : List A) (x : A) → flat_map f (xs ++ x ∷ []) ≡ flat_map f xs ++ f x
flat_map-push f [] x = append-nil (f x)
flat_map-push f (y ∷ ys) x = ap (λ zs. f y ++ zs) (flat_map-push f ys x) ∙ sym (append_assoc (f y) (flat_map f ys) (f x))

-- what one more part gives stands behind what those before it give
pub flat_more : {A B : Type 0} (f : B → List B) (g : A → B) (xs : List A) (i : ℕ) (x : A) (now new : List B) → i < length xs → x ≡ get_or xs i x
    → now ≡ flat_map f (map g (take i xs)) → new ≡ now ++ f (g x) → new ≡ flat_map f (map g (take (i + 1) xs))
flat_more f g xs i x now new lt e so step =
    step ∙ ap (λ zs. zs ++ f (g x)) so ∙ sym (flat_map-push f (map g (take i xs)) (g x)) ∙ ap (flat_map f) (sym (map_more g xs i x lt e))

-- each part of a list has numbers
pub numbers_among : (ps : List Part) (i : ℕ) (p : Part) → i < length ps → p ≡ get_or ps i p → HaveNumbers (map part_of ps) → HasNumbers (part_of p)
numbers_among [] i p lt e h = absurd (omega (arith, lt))
numbers_among (q ∷ ps) zero p lt e h = subst (λ z. HasNumbers (part_of z)) (sym e) h.0
numbers_among (q ∷ ps) (suc i) p lt e h = let below : i < length ps = omega (arith, lt) in numbers_among ps i p below e h.1

-- ---- what passes a test, seen through a view

first_kept : {A B : Type 0} (g : A → B) (k : A → Bool) (x : A) (xs : List A) (b : Bool) → k x ≡ b → map g (filter k (x ∷ xs)) ≡ cond b (g x ∷ []) [] ++ map g (filter k xs)
first_kept g k x xs true e = ap (λ b. map g (cond b (x ∷ filter k xs) (filter k xs))) e
first_kept g k x xs false e = ap (λ b. map g (cond b (x ∷ filter k xs) (filter k xs))) e

push_kept : {A B : Type 0} (g : A → B) (k : A → Bool) (x : A) (xs : List A) (rest old : List B) → (old ++ cond (k x) (g x ∷ []) []) ++ (map g (filter k xs) ++ rest) ≡ old ++ (map g (filter k (x ∷ xs)) ++ rest)
push_kept g k x xs rest old =
    append_assoc old (cond (k x) (g x ∷ []) []) (map g (filter k xs) ++ rest)
    ∙ ap (λ zs. old ++ zs) (sym (append_assoc (cond (k x) (g x ∷ []) []) (map g (filter k xs)) rest) ∙ ap (λ zs. zs ++ rest) (sym (first_kept g k x xs (k x) refl)))

-- one item appended where it passes, before those that follow it
pub before : {A B : Type 0} (g : A → B) (k : A → Bool) (x : A) (xs : List A) (rest old now all : List B) → now ≡ old ++ cond (k x) (g x ∷ []) [] → all ≡ now ++ (map g (filter k xs) ++ rest) → all ≡ old ++ (map g (filter k (x ∷ xs)) ++ rest)
before g k x xs rest old now all step more = more ∙ ap (λ zs. zs ++ (map g (filter k xs) ++ rest)) step ∙ push_kept g k x xs rest old

-- ---- the result of a test that narrows

pub narrowed : (b : Bool) (t made : model.PhpType) (ps qs : List model.Part) → b ≡ true → made ≡ normal_within 66 (ps ++ []) → ps ≡ qs → made ≡ cond b (normal qs) t
unfolding normal
narrowed true t made ps qs e h same = h ∙ ap (normal_within 66) (append-nil ps ∙ same)
narrowed false t made ps qs e h same = let wrong : false ≡ true = e in cc
