-- Truth values, and lists of kinds of tokens.
use Rattle.std.proofs.Common.{◌≡◌, ℕ, Bool, true, false, List, [], ◌∷◌, Option, Some, None, refl, sym, ap, subst, ◌∙◌, ◌⊎◌, inl, inr, rules, ◌&&◌}
use Rattle.std.specs.Prelude.{not, ◌||◌}
use denote.Enum.Bare.{same_true, true_same}
use Rattle.stan_model_grammar.specs.contracts.token.TokenKind.{the_type}
use Rattle.stan_model_grammar.specs.declared.token.TokenKind.{TokenKind}
use Rattle.stan_model_grammar.specs.declared.token.Token.{Token}
use Rattle.stan_model_statements.specs.Kinds.{same_kind, has}
use Rattle.stan_model_grammar.specs.Strata.{kind_at, kind_of}
use Rattle.stan_model_grammar.specs.Expressions.{Stands}

abbrev pub implies : Bool → Bool → Bool
implies true b = b
implies false b = true

pub and_split : (a b : Bool) → a && b ≡ true → (a ≡ true) × (b ≡ true)
and_split true b h = (refl, h)
and_split false b h = absurd cc

pub and_both : (a b : Bool) → a ≡ true → b ≡ true → a && b ≡ true
and_both true b h i = i
and_both false b h i = absurd cc

pub or_split : (a b : Bool) → a || b ≡ true → (a ≡ true) ⊎ (b ≡ true)
or_split true b h = inl refl
or_split false b h = inr h

pub or_none : (a b : Bool) → a || b ≡ false → (a ≡ false) × (b ≡ false)
or_none true b h = absurd cc
or_none false b h = (refl, h)

pub or_right : (a b : Bool) → b ≡ true → a || b ≡ true
or_right true b h = refl
or_right false b h = h

pub implied : (a b : Bool) → implies a b ≡ true → a ≡ true → b ≡ true
implied true b h i = h
implied false b h i = absurd cc

pub implying : (a b : Bool) → (a ≡ true → b ≡ true) → implies a b ≡ true
implying true b f = f refl
implying false b f = refl

pub truth : (b : Bool) → (b ≡ true) ⊎ (b ≡ false)
truth true = inl refl
truth false = inr refl

pub not_false : (b : Bool) → not b ≡ true → b ≡ false
not_false true h = absurd cc
not_false false h = refl

pub some_is : {A : Type 0} (x y : A) → (let s : A → Option A = Some in s x ≡ s y) → x ≡ y
some_is x y e = cc

pub see : {A : Type 0} (o : Option A) → (o ≡ None) ⊎ ((x : A) × (o ≡ Some x))
see None = inl refl
see (Some x) = inr (x, refl)

-- ---- kinds

pub same_is : (a b : TokenKind) → same_kind a b ≡ true → a ≡ b
unfolding same_kind
same_is a b h = same_true the_type (search rules) a b h

pub same_at : (a b : TokenKind) → a ≡ b → same_kind a b ≡ true
unfolding same_kind
same_at a b e = true_same the_type a b e

abbrev pub subset : List TokenKind → List TokenKind → Bool
subset [] ys = true
subset (x ∷ xs) ys = has ys x && subset xs ys

abbrev pub apart : List TokenKind → List TokenKind → Bool
apart [] ys = true
apart (x ∷ xs) ys = not (has ys x) && apart xs ys

pub subset_has : (xs ys : List TokenKind) (k : TokenKind) → subset xs ys ≡ true → has xs k ≡ true → has ys k ≡ true
subset_has [] ys k s h = absurd cc
subset_has (x ∷ xs) ys k s h =
    let split = and_split (has ys x) (subset xs ys) s in
    elim (or_split (same_kind k x) (has xs k) h) [
      | inl e ↦ subst (λ y. has ys y ≡ true) (sym (same_is k x e)) split.0
      | inr i ↦ subset_has xs ys k split.1 i
    ]

pub apart_has : (xs ys : List TokenKind) (k : TokenKind) → apart xs ys ≡ true → has xs k ≡ true → has ys k ≡ false
apart_has [] ys k s h = absurd cc
apart_has (x ∷ xs) ys k s h =
    let split = and_split (not (has ys x)) (apart xs ys) s in
    elim (or_split (same_kind k x) (has xs k) h) [
      | inl e ↦ subst (λ y. has ys y ≡ false) (sym (same_is k x e)) (not_false (has ys x) split.0)
      | inr i ↦ apart_has xs ys k split.1 i
    ]

pub clash : {A : Type 0} (b : Bool) → b ≡ true → b ≡ false → A
clash true h i = absurd cc
clash false h i = absurd cc

-- ---- tokens

pub stands_kind : (ts : List Token) (at : ℕ) (t : Token) → Stands ts at t → kind_at ts at ≡ t.kind
unfolding kind_at
stands_kind ts at t h = ap kind_of h

pub one_token : (ts : List Token) (at : ℕ) (t u : Token) → Stands ts at t → Stands ts at u → t ≡ u
one_token ts at t u h i = some_is t u (sym h ∙ i)
