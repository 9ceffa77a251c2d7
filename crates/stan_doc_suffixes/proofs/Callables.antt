-- A callable with a type takes the `[]` behind it into that type. Behind one without a type a longer atom goes on with `:` alone.
use Rattle.std.proofs.Common.{◌≡◌, ◌∙◌, ℕ, ◌+◌, ◌≤◌, ◌<◌, true, List, [], ◌∷◌, Some, refl, sym, subst, ◌⊎◌, inl, inr, arith}
use Rattle.stan_model_doc.specs.declared.token.DocKind.TheVariants as k
use Rattle.stan_model_doc.specs.declared.token.DocToken.{DocToken}
use Rattle.stan_model_doc.specs.Tokens.{same_kind, kind_at, has}
use Rattle.stan_model_doc.specs.Symbols.{Unary, Brackets, Atom, Result, Nowhere, May, Many, Symbol, Part}
use Rattle.stan_model_doc.specs.Rules.{Rule, nullable, suffixed, brackets, group, this, literal, shape, range, callable_type, member, name, result_type, symbols, sort_of}
use Rattle.stan_model_doc.specs.Trees.{Forest, nil, mark, word, any, none, some}
use Rattle.stan_model_doc.specs.Grammar.{Runs}
use Rattle.stan_doc_descent.specs.Parse.{any_at, height}
use Rattle.stan_doc_descent.specs.Tables.{firsts, leads, apart}
use Rattle.stan_doc_descent.proofs.Words.{only_kind, some_is, apart_has, clash, stands_kind}
use Rattle.stan_doc_descent.proofs.Runs.{starts}
use Rattle.stan_doc_descent.proofs.Texts.{any_there}
use Rattle.stan_doc_descent.proofs.Seconds.{short_name}

abbrev pub Suffixes : List Symbol
Suffixes = Part Many Brackets ∷ []

-- the items of one list behind those of another
abbrev put_behind : Forest → Forest → Forest
put_behind (some r ps g) f = some r ps (put_behind g f)
put_behind g f = f

module _ (ts : List DocToken) where
  pub low : (f : Forest) (m b : ℕ) → Runs ts Suffixes f m b → height f ≤ 1
  low (none nil) m b h = omega arith
  low (none f) m b h = absurd h.1
  low (some brackets (mark (mark nil)) f) m b h = omega (arith, low f h.0 b h.3)
  low (some brackets (mark (mark f)) g) m b h = absurd h.2.1.1
  low (some brackets (mark f) g) m b h = absurd h.2.1
  low (some brackets f g) m b h = absurd h.2
  low (some r ps f) m b h = absurd (let w = h.1 in cc)
  low f m b h = absurd h

  more_brackets : (g f : Forest) (at m b : ℕ) → Runs ts Suffixes g at m → Runs ts Suffixes f m b → Runs ts Suffixes (put_behind g f) at b × ((d : ℕ) → height g ≤ d → height f ≤ d → height (put_behind g f) ≤ d)
  more_brackets (none nil) f at m b h i = (subst (λ z. Runs ts Suffixes f z b) (sym h.1) i, λ d x y. y)
  more_brackets (none g) f at m b h i = absurd h.1
  more_brackets (some r ps g) f at m b h i =
      let w = more_brackets g f h.0 m b h.3 i in
      ((h.0, h.1, h.2, w.0), λ d x y. let z = w.1 d (omega (arith, x)) y in omega (arith, x, z))
  more_brackets g f at m b h i = absurd h

  abbrev Glued : Rule → Forest → ℕ → ℕ → Type 0
  Glued r ps at b = (qs : Forest) × Runs ts (symbols r) qs at b × (height qs ≤ height ps)

  unary_glued : (r : Rule) (ps f : Forest) (at m b : ℕ) → sort_of r ≡ Unary → Runs ts (symbols r) ps at m → Runs ts Suffixes f m b → Glued r ps at b
  unary_glued nullable (mark (some r ps nil)) f at m b s h i =
      let w = unary_glued r ps f (at + 1) h.1.0 b h.1.1 h.1.2 (subst (λ z. Runs ts Suffixes f z b) (sym h.1.3) i) in
      (mark (some r w.0 nil), (h.0, (b, h.1.1, w.1, refl)), omega (arith, w.2))
  unary_glued nullable (mark (some r ps g)) f at m b s h i = absurd h.1.3
  unary_glued nullable (mark (none g)) f at m b s h i = absurd (let w = h.1.0 in cc)
  unary_glued nullable (mark g) f at m b s h i = absurd h.1
  unary_glued nullable g f at m b s h i = absurd h
  unary_glued suffixed (some r ps g) f at m b s h i =
      let w = more_brackets g f h.0 m b h.3 i in
      let d = w.1 (height (some r ps g)) (omega arith) (omega (arith, low f m b i)) in
      (some r ps (put_behind g f), (h.0, h.1, h.2, w.0), omega (arith, d))
  unary_glued suffixed (none g) f at m b s h i = absurd (let w = h.0 in cc)
  unary_glued suffixed g f at m b s h i = absurd h
  unary_glued r ps f at m b s h i = absurd (let w = s in cc)

  abbrev Typed : List Symbol
  Typed = Part May Result ∷ []

  result_glued : (g f : Forest) (p m b : ℕ) → Runs ts Typed g p m → Runs ts Suffixes f m b → (p ≡ m) ⊎ ((k : Forest) × Runs ts Typed k p b × (height k ≤ height g))
  result_glued (none nil) f p m b h i = inl h.1
  result_glued (none g) f p m b h i = absurd h.1
  result_glued (some result_type (mark (some r ps nil)) nil) f p m b h i =
      let w = unary_glued r ps f (p + 1) h.2.1.0 b h.2.1.1 h.2.1.2 (subst (λ z. Runs ts Suffixes f z b) (sym (h.2.1.3 ∙ h.3)) i) in
      inr (some result_type (mark (some r w.0 nil)) nil, (b, refl, (h.2.0, (b, h.2.1.1, w.1, refl)), refl), omega (arith, w.2))
  result_glued (some result_type (mark (some r ps nil)) g) f p m b h i = absurd h.3
  result_glued (some result_type (mark (some r ps g)) k) f p m b h i = absurd h.2.1.3
  result_glued (some result_type (mark (none g)) k) f p m b h i = absurd (let w = h.2.1.0 in cc)
  result_glued (some result_type (mark g) k) f p m b h i = absurd h.2.1
  result_glued (some result_type g k) f p m b h i = absurd h.2
  result_glued (some r ps g) f p m b h i = absurd (let w = h.1 in cc)
  result_glued g f p m b h i = absurd h

  -- a callable without a type
  abbrev pub Bare : ℕ → ℕ → Type 0
  Bare at m = (n : ℕ) × (has (k.Callable ∷ k.Closure ∷ []) (kind_at ts at) ≡ true) × (kind_at ts (at + 1) ≡ k.LeftParenthesis) × (any_at ts Nowhere (at + 1 + 1) ≡ Some n) × (at + 1 + 1 + n + 1 ≡ m)

  pub callable_glued : (ps f : Forest) (at m b : ℕ) → Runs ts (symbols callable_type) ps at m → Runs ts Suffixes f m b → Bare at m ⊎ Glued callable_type ps at b
  callable_glued (word t (mark (any n (mark g)))) f at m b h i = elim (result_glued g f (at + 1 + 1 + n + 1) m b h.2.1.2.1 i) [
    | inl e ↦ inl (n, rw (stands_kind ts at t h.0) h.1, h.2.0, any_there ts Nowhere (at + 1 + 1) n h.2.1.0 h.2.1.1 (rw h.2.1.2.0 refl), e)
    | inr w ↦ inr (word t (mark (any n (mark w.0))), (h.0, h.1, (h.2.0, (h.2.1.0, h.2.1.1, (h.2.1.2.0, w.1)))), omega (arith, w.2))
  ]
  callable_glued (word t (mark (any n g))) f at m b h i = absurd h.2.1.2
  callable_glued (word t (mark g)) f at m b h i = absurd h.2.1
  callable_glued (word t g) f at m b h i = absurd h.2
  callable_glued g f at m b h i = absurd h

  -- a longer atom has a type
  same_callable : (ps : Forest) (at m e : ℕ) → Bare at m → Runs ts (symbols callable_type) ps at e → m < e → kind_at ts m ≡ k.Colon
  unfolding same_kind
  same_callable (word t (mark (any n (mark g)))) at m e bare h lt =
      let same : bare.0 ≡ n = some_is bare.0 n (sym bare.3 ∙ any_there ts Nowhere (at + 1 + 1) n h.2.1.0 h.2.1.1 (rw h.2.1.2.0 refl)) in
      let there : at + 1 + 1 + n + 1 ≡ m = omega (arith, same, bare.4) in
      elim (starts ts Typed g (at + 1 + 1 + n + 1) e refl h.2.1.2.1) [
        | inl x ↦ absurd (omega (arith, x.0, there, lt))
        | inr x ↦ only_kind k.Colon (kind_at ts m) (subst (λ z. has (k.Colon ∷ []) (kind_at ts z) ≡ true) there x.1)
      ]
  same_callable (word t (mark (any n g))) at m e bare h lt = absurd h.2.1.2
  same_callable (word t (mark g)) at m e bare h lt = absurd h.2.1
  same_callable (word t g) at m e bare h lt = absurd h.2
  same_callable g at m e bare h lt = absurd h

  -- no other atom begins like it
  other : (r : Rule) (ps : Forest) (at m e : ℕ) → apart (firsts (symbols r)) (k.Callable ∷ k.Closure ∷ []) ≡ true → leads (symbols r) ≡ true → Bare at m → Runs ts (symbols r) ps at e → m < e → kind_at ts m ≡ k.Colon
  other r ps at m e a l bare h lt = elim (starts ts (symbols r) ps at e l h) [
    | inl x ↦ absurd (omega (arith, x.0, bare.4, lt))
    | inr x ↦ clash (has (k.Callable ∷ k.Closure ∷ []) (kind_at ts at)) bare.1 (apart_has (firsts (symbols r)) (k.Callable ∷ k.Closure ∷ []) (kind_at ts at) a x.1)
  ]

  pub longer_atom : (r : Rule) (ps : Forest) (at m e : ℕ) → sort_of r ≡ Atom → Bare at m → Runs ts (symbols r) ps at e → m < e → kind_at ts m ≡ k.Colon
  unfolding same_kind
  longer_atom callable_type ps at m e s bare h lt = same_callable ps at m e bare h lt
  longer_atom group ps at m e s bare h lt = other group ps at m e refl refl bare h lt
  longer_atom this ps at m e s bare h lt = other this ps at m e refl refl bare h lt
  longer_atom literal ps at m e s bare h lt = other literal ps at m e refl refl bare h lt
  longer_atom shape ps at m e s bare h lt = other shape ps at m e refl refl bare h lt
  longer_atom range ps at m e s bare h lt = other range ps at m e refl refl bare h lt
  longer_atom member (word t (mark f)) at m e s bare h lt = absurd (let w = sym bare.2 ∙ h.2.0 in cc)
  longer_atom member (word t f) at m e s bare h lt = absurd h.2
  longer_atom member f at m e s bare h lt = absurd h
  longer_atom name ps at m e s bare h lt = absurd (omega (arith, short_name ts ps at e k.LeftParenthesis h bare.2 refl, lt, bare.4))
  longer_atom r ps at m e s bare h lt = absurd (let w = s in cc)
