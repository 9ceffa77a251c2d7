-- Truth values, and lists of kinds of tokens.
use Rattle.std.proofs.Common.{◌≡◌, ℕ, Bool, true, false, List, [], ◌∷◌, Option, Some, None, refl, sym, ap, subst, ◌∙◌, ◌⊎◌, inl, inr, rules, ◌&&◌}
use Rattle.std.specs.Prelude.{not, ◌||◌}
use denote.Enum.Bare.{same_true, true_same}
use Rattle.stan_model_doc.specs.contracts.token.DocKind.{the_type}
use Rattle.stan_model_doc.specs.declared.token.DocKind.{DocKind}
use Rattle.stan_model_doc.specs.declared.token.DocToken.{DocToken}
use Rattle.stan_model_doc.specs.Tokens.{same_kind, has, kind_at, kind_of, Stands}
use Rattle.stan_doc_descent.specs.Tables.{implies, subset, apart}

pub and_split : (a b : Bool) → a && b ≡ true → (a ≡ true) × (b ≡ true)
and_split true b h = (refl, h)
and_split false b h = absurd cc

pub or_split : (a b : Bool) → a || b ≡ true → (a ≡ true) ⊎ (b ≡ true)
or_split true b h = inl refl
or_split false b h = inr h

pub or_right : (a b : Bool) → b ≡ true → a || b ≡ true
or_right true b h = refl
or_right false b h = h

pub implied : (a b : Bool) → implies a b ≡ true → a ≡ true → b ≡ true
implied true b h i = h
implied false b h i = absurd cc

pub truth : (b : Bool) → (b ≡ true) ⊎ (b ≡ false)
truth true = inl refl
truth false = inr refl

pub not_false : (b : Bool) → not b ≡ true → b ≡ false
not_false true h = absurd cc
not_false false h = refl

pub some_is : {A : Type 0} (x y : A) → (let s : A → Option A = Some in s x ≡ s y) → x ≡ y
some_is x y e = cc

pub see : {A : Type 0} (o : Option A) → (o ≡ None) ⊎ ((x : A) × (o ≡ Some x))
see None = inl refl
see (Some x) = inr (x, refl)

-- ---- kinds

pub same_is : (a b : DocKind) → same_kind a b ≡ true → a ≡ b
unfolding same_kind
same_is a b h = same_true the_type (search rules) a b h

pub same_at : (a b : DocKind) → a ≡ b → same_kind a b ≡ true
unfolding same_kind
same_at a b e = true_same the_type a b e

pub only_kind : (a b : DocKind) → has (a ∷ []) b ≡ true → b ≡ a
only_kind a b h = elim (or_split (same_kind b a) false h) [
  | inl e ↦ same_is b a e
  | inr e ↦ absurd (let w = e in cc)
]

pub subset_has : (xs ys : List DocKind) (k : DocKind) → subset xs ys ≡ true → has xs k ≡ true → has ys k ≡ true
subset_has [] ys k s h = absurd cc
subset_has (x ∷ xs) ys k s h =
    let split = and_split (has ys x) (subset xs ys) s in
    elim (or_split (same_kind k x) (has xs k) h) [
      | inl e ↦ subst (λ y. has ys y ≡ true) (sym (same_is k x e)) split.0
      | inr i ↦ subset_has xs ys k split.1 i
    ]

pub apart_has : (xs ys : List DocKind) (k : DocKind) → apart xs ys ≡ true → has xs k ≡ true → has ys k ≡ false
apart_has [] ys k s h = absurd cc
apart_has (x ∷ xs) ys k s h =
    let split = and_split (not (has ys x)) (apart xs ys) s in
    elim (or_split (same_kind k x) (has xs k) h) [
      | inl e ↦ subst (λ y. has ys y ≡ false) (sym (same_is k x e)) (not_false (has ys x) split.0)
      | inr i ↦ apart_has xs ys k split.1 i
    ]

pub clash : {A : Type 0} (b : Bool) → b ≡ true → b ≡ false → A
clash true h i = absurd cc
clash false h i = absurd cc

-- ---- tokens

pub stands_kind : (ts : List DocToken) (at : ℕ) (t : DocToken) → Stands ts at t → kind_at ts at ≡ t.kind
unfolding kind_at
stands_kind ts at t h = ap kind_of h

pub one_token : (ts : List DocToken) (at : ℕ) (t u : DocToken) → Stands ts at t → Stands ts at u → t ≡ u
one_token ts at t u h i = some_is t u (sym h ∙ i)
