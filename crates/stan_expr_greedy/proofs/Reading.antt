-- Steps of the parser, taken apart.
use Rattle.std.proofs.Common.{◌≡◌, ℕ, zero, suc, ◌+◌, Bool, true, false, cond, List, [], ◌∷◌, ◌++◌, Option, Some, None, refl, sym, subst, ◌∙◌, append_assoc, append-nil, ◌⊎◌, inl, inr, rules}
use denote.Enum.Bare.{same_true, true_same}
use Rattle.stan_model_grammar.specs.contracts.token.TokenKind.{the_type}
use Rattle.stan_model_grammar.specs.declared.token.Token.{Token}
use Rattle.stan_model_grammar.specs.declared.token.TokenKind.{TokenKind}
use Rattle.stan_model_grammar.specs.declared.token.TokenKind.TheVariants as kinds
use Rattle.stan_model_grammar.specs.Strata.{kind_of, kind_at}
use Rattle.stan_model_grammar.specs.Expressions.{May}
use Rattle.stan_expr_rules.specs.Places.{same_kind, after_of, after, may_of, may}
use Rattle.stan_expr_rules.specs.Parse.{Read, Turn, ◌>>=◌, choose, taken, many}
use Rattle.stan_expr_rules.proofs.Choices.{some_is, not_true, nothing_is}

pub bind_ok : {A B : Type 0} (r : Option A) (f : A → Option B) (y : B) → (r >>= f) ≡ Some y → (x : A) × (r ≡ Some x) × (f x ≡ Some y)
bind_ok (Some x) f y e = (x, refl, e)
bind_ok None f y e = absurd cc

-- what holds of the value that was given holds of the value that was read
pub read_is : {A : Type 0} (P : A → Type 0) (x y : A) → (let s : A → Option A = Some in s x ≡ s y) → P x → P y
read_is P x y e p = subst P (some_is x y e) p

-- the same of a value and a place
pub gives : {A : Type 0} (P : A → ℕ → Type 0) (x y : A × ℕ) → (let s : A × ℕ → Option (A × ℕ) = Some in s x ≡ s y) → P x.0 x.1 → P y.0 y.1
gives P x y e p = read_is (λ z. P z.0 z.1) x y e p

-- the same of a turn of a loop
pub turn_gives : {A : Type 0} (P : A → ℕ → Type 0) (x y : A × ℕ) → (let s : A × ℕ → Option (Option (A × ℕ)) = λ z. Some (Some z) in s x ≡ s y) → P x.0 x.1 → P y.0 y.1
turn_gives P x y e p = gives P x y (some_is (Some x) (Some y) e) p

-- what was read, and then put into something
pub made_of : {A B : Type 0} (r : Read A) (f : A → B) (P : B → ℕ → Type 0) (y : B × ℕ) → ((x : A × ℕ) → r ≡ Some x → P (f x.0) x.1)
    → (let g : A × ℕ → Option (B × ℕ) = λ x. Some (f x.0, x.1) in (r >>= g) ≡ Some y) → P y.0 y.1
made_of (Some x) f P y each e = gives P (f x.0, x.1) y e (each x refl)
made_of None f P y each e = absurd cc

pub taken_is : {A : Type 0} (r : Read A) (x : A × ℕ) → taken r ≡ Some (Some x) → r ≡ Some x
taken_is (Some y) x h = cc
taken_is None x h = absurd cc

pub taken_none : {A : Type 0} (r : Read A) → taken r ≡ Some None → ⊥
taken_none (Some y) h = cc
taken_none None h = cc

pub none_is_not : {A : Type 0} (x : A) → (let s : Option A → Option (Option A) = Some in s None ≡ s (Some x)) → ⊥
none_is_not x h = cc

-- ---- tests

pub choose_is : {A : Type 0} (o : Option ℕ) (f : ℕ → A) (other y : A) → choose o f other ≡ y → ((to : ℕ) × (o ≡ Some to) × (f to ≡ y)) ⊎ ((o ≡ None) × (other ≡ y))
choose_is (Some to) f other y h = inl (to, refl, h)
choose_is None f other y h = inr (refl, h)

pub if_is : {A : Type 0} (c : Bool) (x other y : A) → cond c x other ≡ y → ((c ≡ true) × (x ≡ y)) ⊎ ((c ≡ false) × (other ≡ y))
if_is true x other y h = inl (refl, h)
if_is false x other y h = inr (refl, h)

-- a test that has to hold
pub guard_ok : {A : Type 0} (c : Bool) (r : Option A) (y : A) → cond c r None ≡ Some y → (c ≡ true) × (r ≡ Some y)
guard_ok true r y h = (refl, h)
guard_ok false r y h = absurd cc

-- a test that may not hold
pub guard_not : {A : Type 0} (c : Bool) (r : Option A) (y : A) → cond c None r ≡ Some y → (c ≡ false) × (r ≡ Some y)
guard_not true r y h = absurd cc
guard_not false r y h = (refl, h)

-- ---- tokens

pub same_is : (a b : TokenKind) → same_kind a b ≡ true → a ≡ b
unfolding same_kind
same_is a b h = same_true the_type (search rules) a b h

pub same_at : (a b : TokenKind) → a ≡ b → same_kind a b ≡ true
unfolding same_kind
same_at a b e = true_same the_type a b e

pub same_not : (a b : TokenKind) → (a ≡ b → ⊥) → same_kind a b ≡ false
same_not a b h = not_true (same_kind a b) (λ e. h (same_is a b e))

after_of_is : (o : Option Token) (kind : TokenKind) (at to : ℕ) → after_of o kind at ≡ Some to → (kind_of o ≡ kind) × (to ≡ at + 1)
after_of_is None kind at to h = absurd cc
after_of_is (Some x) kind at to h = let g = guard_ok (same_kind x.kind kind) (Some (at + 1)) to h in (same_is x.kind kind g.0, sym (some_is (at + 1) to g.1))

pub after_is : (ts : List Token) (kind : TokenKind) (at to : ℕ) → after ts kind at ≡ Some to → (kind_at ts at ≡ kind) × (to ≡ at + 1)
unfolding after kind_at
after_is ts kind at to h = after_of_is _ kind at to h

after_of_at : (o : Option Token) (kind : TokenKind) (at : ℕ) → (kinds.End ≡ kind → ⊥) → kind_of o ≡ kind → after_of o kind at ≡ Some (at + 1)
after_of_at None kind at some k = absurd (some k)
after_of_at (Some x) kind at some k = rw (same_at x.kind kind k) refl

pub after_at : (ts : List Token) (kind : TokenKind) (at : ℕ) → (kinds.End ≡ kind → ⊥) → kind_at ts at ≡ kind → after ts kind at ≡ Some (at + 1)
unfolding after kind_at
after_at ts kind at some k = after_of_at _ kind at some k

pub after_to : (ts : List Token) (kind : TokenKind) (at to : ℕ) → (kinds.End ≡ kind → ⊥) → kind_at ts at ≡ kind → to ≡ at + 1 → after ts kind at ≡ Some to
after_to ts kind at to some k e = rw e (after_at ts kind at some k)

after_of_none : (o : Option Token) (kind : TokenKind) (at : ℕ) → (kinds.End ≡ kind → ⊥) → after_of o kind at ≡ None → kind_of o ≡ kind → ⊥
after_of_none o kind at some h k = nothing_is (at + 1) (sym h ∙ after_of_at o kind at some k)

pub after_none : (ts : List Token) (kind : TokenKind) (at : ℕ) → (kinds.End ≡ kind → ⊥) → after ts kind at ≡ None → kind_at ts at ≡ kind → ⊥
unfolding after kind_at
after_none ts kind at some h k = after_of_none _ kind at some h k

after_of_not : (o : Option Token) (kind : TokenKind) (at : ℕ) → (kind_of o ≡ kind → ⊥) → after_of o kind at ≡ None
after_of_not None kind at h = refl
after_of_not (Some x) kind at h = elim (if_is (same_kind x.kind kind) (Some (at + 1)) None (after_of (Some x) kind at) refl) [
  | inl e ↦ absurd (h (same_is x.kind kind e.0))
  | inr e ↦ sym e.1
]

pub after_not : (ts : List Token) (kind : TokenKind) (at : ℕ) → (kind_at ts at ≡ kind → ⊥) → after ts kind at ≡ None
unfolding after kind_at
after_not ts kind at h = after_of_not _ kind at h

may_of_is : (ts : List Token) (kind : TokenKind) (at : ℕ) (o : Option ℕ) → after ts kind at ≡ o → May ts (may_of o at).0 kind at (may_of o at).1
may_of_is ts kind at None h = refl
may_of_is ts kind at (Some to) h = after_is ts kind at to h

pub may_is : (ts : List Token) (kind : TokenKind) (at : ℕ) → May ts (may ts kind at).0 kind at (may ts kind at).1
unfolding may
may_is ts kind at = may_of_is ts kind at (after ts kind at) refl

-- ---- lists

-- items one after the other
abbrev pub Seq : {A : Type 0} → (A → ℕ → ℕ → Type 0) → List A → ℕ → ℕ → Type 0
Seq P [] at to = at ≡ to
Seq P (x ∷ xs) at to = (b : ℕ) × P x at b × Seq P xs b to

abbrev pub Many : {A : Type 0} → (ℕ → Turn A) → (A → ℕ → ℕ → Type 0) → List A → ℕ → List A × ℕ → Type 0
Many {A} turn P found at r = (ys : List A) × (r.0 ≡ found ++ ys) × Seq P ys at r.1 × (turn r.1 ≡ Some None)

module _ {A : Type 0} (turn : ℕ → Turn A) (P : A → ℕ → ℕ → Type 0) (item : (at : ℕ) (x : A × ℕ) → turn at ≡ Some (Some x) → P x.0 at x.1) where
  many_turn : (o : Option (A × ℕ)) (n : ℕ) (found : List A) (at : ℕ) (r : List A × ℕ) → turn at ≡ Some o
      → ((x : A × ℕ) → many turn n (found ++ x.0 ∷ []) x.1 ≡ Some r → Many turn P (found ++ x.0 ∷ []) x.1 r)
      → (let rest : Read (List A) = elim o [ None ↦ Some (found, at) | Some x ↦ many turn n (found ++ x.0 ∷ []) x.1 ] in rest ≡ Some r) → Many turn P found at r
  many_turn None n found at r s ih h = read_is (Many turn P found at) (found, at) r h ([], sym (append-nil found), refl, s)
  many_turn (Some x) n found at r s ih h = let m = ih x h in (x.0 ∷ m.0, m.1 ∙ append_assoc found (x.0 ∷ []) m.0, (x.1, item at x s, m.2), m.3)

  -- what a loop reads is items one after the other, up to where there is none
  pub many_sound : (n : ℕ) (found : List A) (at : ℕ) (r : List A × ℕ) → many turn n found at ≡ Some r → Many turn P found at r
  many_sound zero found at r h = absurd cc
  many_sound (suc n) found at r h =
      let s = bind_ok (turn at) _ r h in
      many_turn s.0 n found at r s.1 (λ x. many_sound n (found ++ x.0 ∷ []) x.1 r) s.2
