-- Truth values, and lists of kinds of tokens.
use Rattle.std.proofs.Common.{◌≡◌, Bool, true, false, List, [], ◌∷◌, Option, Some, None, refl, sym, ap, subst, ◌∙◌, ◌⊎◌, inl, inr, rules, ◌&&◌, true≢false}
use Rattle.std.specs.Prelude.{not, ◌||◌, slice_get, if◌then◌else◌, ℕ}
use denote.Enum.Bare.{same_true, true_same}
use Rattle.stan_model_grammar.specs.contracts.token.TokenKind.{the_type}
use Rattle.stan_model_grammar.specs.declared.token.TokenKind.{TokenKind}
use Rattle.stan_model_statements.specs.Kinds.{same_kind, has}

pub truth : (b : Bool) → (b ≡ true) ⊎ (b ≡ false)
truth true = inl refl
truth false = inr refl

pub and_split : (a b : Bool) → a && b ≡ true → (a ≡ true) × (b ≡ true)
and_split true b h = (refl, h)
and_split false b h = absurd cc

pub or_none : (a b : Bool) → a || b ≡ false → (a ≡ false) × (b ≡ false)
or_none true b h = absurd cc
or_none false b h = (refl, h)

or_split : (a b : Bool) → a || b ≡ true → (a ≡ true) ⊎ (b ≡ true)
or_split true b h = inl refl
or_split false b h = inr h

pub see : {A : Type 0} (o : Option A) → (o ≡ None) ⊎ ((x : A) × (o ≡ Some x))
see None = inl refl
see (Some x) = inr (x, refl)

pub same_is : (a b : TokenKind) → same_kind a b ≡ true → a ≡ b
unfolding same_kind
same_is a b h = same_true the_type (search rules) a b h

pub same_at : (a b : TokenKind) → a ≡ b → same_kind a b ≡ true
unfolding same_kind
same_at a b e = true_same the_type a b e

abbrev pub subset : List TokenKind → List TokenKind → Bool
subset [] ys = true
subset (x ∷ xs) ys = has ys x && subset xs ys

neither : (a b : Bool) → a ≡ false → b ≡ false → a || b ≡ false
neither a b h i = rw (h, i) refl

-- what none of the more kinds is, is none of the fewer
pub fewer : (xs ys : List TokenKind) (k : TokenKind) → subset xs ys ≡ true → has ys k ≡ false → has xs k ≡ false
fewer [] ys k s h = refl
fewer (x ∷ xs) ys k s h =
    let both = and_split (has ys x) (subset xs ys) s in
    neither (same_kind k x) (has xs k) (other (truth (same_kind k x)) both.0) (fewer xs ys k both.1 h)
  where
    other : (same_kind k x ≡ true) ⊎ (same_kind k x ≡ false) → has ys x ≡ true → same_kind k x ≡ false
    other (inl e) i = absurd (true≢false (sym (subst (λ z. has ys z ≡ true) (sym (same_is k x e)) i) ∙ h))
    other (inr e) i = e
