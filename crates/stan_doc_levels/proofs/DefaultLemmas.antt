-- A default goes as far as it can: behind a shorter one stands no token that would stop it.
use Rattle.std.proofs.Common.{◌≡◌, ◌∙◌, ℕ, zero, suc, ◌+◌, ◌-◌, ◌≤◌, ◌<◌, Bool, true, false, cond, List, [], ◌∷◌, length, take, drop, length-drop, Option, Some, None, refl, sym, ap, subst, ◌⊎◌, inl, inr, arith, ◌&&◌}
use Rattle.std.specs.Prelude.{not, nat_le, slice_get, slice_range, IsTrue}
use Rattle.std.proofs.lemmas.Bool.{leb-true, le-leb, not-true}
use Rattle.std.proofs.lemmas.Option.{slice_get_within}
use Rattle.stan_model_doc.specs.declared.token.DocKind.{DocKind}
use Rattle.stan_model_doc.specs.declared.token.DocKind.TheVariants as k
use Rattle.stan_model_doc.specs.declared.token.DocToken.{DocToken}
use Rattle.stan_model_doc.specs.Tokens.{same_kind, kind_at, kind_of, has}
use Rattle.stan_model_doc.specs.Symbols.{Stop, AtComma, Any}
use Rattle.stan_model_doc.specs.Rules.{default_value, symbols}
use Rattle.stan_model_doc.specs.Trees.{Forest, nil, mark, any}
use Rattle.stan_model_doc.specs.Grammar.{Runs, closer, is_closer, stops, matches}
use Rattle.stan_doc_descent.specs.Parse.{after, height}
use Rattle.stan_doc_descent.specs.Tables.{texts_go}
use Rattle.stan_doc_descent.specs.Alternatives.{ReadsProduction}
use Rattle.stan_doc_descent.specs.Descent.{Outgrown, Reaches}
use Rattle.stan_model_doc.specs.Choices.{Better}
use Rattle.stan_doc_conditions.proofs.BracketLemmas.{token_there}
use Rattle.stan_doc_conditions.proofs.PartingLemmas.{in_order}
use Rattle.stan_doc_descent.proofs.Words.{and_split, some_is, clash}
use Rattle.stan_doc_descent.proofs.Runs.{after_at}
use Rattle.stan_doc_descent.proofs.Reading.{bind_ok, after_is}
use Rattle.stan_doc_descent.proofs.Texts.{dropped}
use Rattle.stan_doc_levels.specs.Levels.{most, default_text}

-- a token outside of brackets with which a text of any tokens goes on
abbrev Passes : Stop → DocToken → Type 0
Passes stop t = (is_closer t.kind ≡ false) × (stops stop t.kind ≡ false)

inside : (stop : Stop) (stack : List DocKind) (us : List DocToken) (n m : ℕ) → n < m → m ≤ length us → matches stop stack (take n us) ≡ true → matches stop stack (take m us) ≡ true → (t : DocToken) × (slice_get us n ≡ Some t) × Passes stop t
inside stop stack [] n m lt le h i = absurd (omega (arith, lt, le))
inside stop stack (t ∷ us) n zero lt le h i = absurd (omega (arith, lt))
inside stop (a ∷ stack) (t ∷ us) zero (suc m) lt le h i = absurd cc
inside stop [] (t ∷ us) zero (suc m) lt le h i =
    let split = and_split (not (is_closer t.kind) && not (stops stop t.kind)) _ i in
    let both = and_split (not (is_closer t.kind)) (not (stops stop t.kind)) split.0 in
    (t, refl, (not-true (is_closer t.kind) both.0, not-true (stops stop t.kind) both.1))
inside stop [] (t ∷ us) (suc n) (suc m) lt le h i =
    let p = and_split (not (is_closer t.kind) && not (stops stop t.kind)) _ h in
    let q = and_split (not (is_closer t.kind) && not (stops stop t.kind)) _ i in
    by (λ stack x y. inside stop stack us n m (omega (arith, lt)) (omega (arith, le)) x y) (closer t.kind) p.1 q.1
  where
    by : ((stack : List DocKind) → matches stop stack (take n us) ≡ true → matches stop stack (take m us) ≡ true → (t : DocToken) × (slice_get us n ≡ Some t) × Passes stop t) → (o : Option DocKind)
        → (elim o [ None ↦ matches stop [] (take n us) | Some close ↦ matches stop (close ∷ []) (take n us) ]) ≡ true
        → (elim o [ None ↦ matches stop [] (take m us) | Some close ↦ matches stop (close ∷ []) (take m us) ]) ≡ true → (t : DocToken) × (slice_get us n ≡ Some t) × Passes stop t
    by more None x y = more [] x y
    by more (Some close) x y = more (close ∷ []) x y
inside stop (a ∷ stack) (t ∷ us) (suc n) (suc m) lt le h i = by (λ stack x y. inside stop stack us n m (omega (arith, lt)) (omega (arith, le)) x y) (is_closer t.kind) (closer t.kind) h i
  where
    by : ((stack : List DocKind) → matches stop stack (take n us) ≡ true → matches stop stack (take m us) ≡ true → (t : DocToken) × (slice_get us n ≡ Some t) × Passes stop t) → (b : Bool) (o : Option DocKind)
        → cond b (same_kind t.kind a && matches stop stack (take n us)) (elim o [ None ↦ matches stop (a ∷ stack) (take n us) | Some close ↦ matches stop (close ∷ a ∷ stack) (take n us) ]) ≡ true
        → cond b (same_kind t.kind a && matches stop stack (take m us)) (elim o [ None ↦ matches stop (a ∷ stack) (take m us) | Some close ↦ matches stop (close ∷ a ∷ stack) (take m us) ]) ≡ true
        → (t : DocToken) × (slice_get us n ≡ Some t) × Passes stop t
    by more true o x y = more stack (and_split (same_kind t.kind a) _ x).1 (and_split (same_kind t.kind a) _ y).1
    by more false None x y = more (a ∷ stack) x y
    by more false (Some close) x y = more (close ∷ a ∷ stack) x y

goes_on : (kind : DocKind) → is_closer kind ≡ false → stops AtComma kind ≡ false → has texts_go kind ≡ true
unfolding same_kind
goes_on k.RightParenthesis c s = absurd cc
goes_on k.RightBracket c s = absurd cc
goes_on k.RightBrace c s = absurd cc
goes_on k.Comma c s = absurd cc
goes_on kind c s = refl

module _ (ts : List DocToken) where
  abbrev pub IsText : ℕ → ℕ → Type 0
  IsText at n = (at + n ≤ length ts) × IsTrue (matches AtComma [] (slice_range ts at (at + n)))

  pub nothing : (at : ℕ) → at ≤ length ts → IsText at 0
  nothing at le =
      let e : 0 ≡ (at + 0) - at = omega arith in
      (omega (arith, le), subst (λ m. matches AtComma [] (take m (drop at ts)) ≡ true) e refl)

  is_text : (at n : ℕ) → nat_le (at + n) (length ts) && matches AtComma [] (slice_range ts at (at + n)) ≡ true → IsText at n
  is_text at n h = let both = and_split (nat_le (at + n) (length ts)) _ h in (leb-true (at + n) (length ts) both.0, both.1)

  pub most_is : (at n : ℕ) → at ≤ length ts → IsText at (most ts at n)
  most_is at zero le = nothing at le
  most_is at (suc n) le = by (nat_le (at + suc n) (length ts) && matches AtComma [] (slice_range ts at (at + suc n))) (is_text at (suc n)) (most_is at n le)
    where
      by : (b : Bool) → (b ≡ true → IsText at (suc n)) → IsText at (most ts at n) → IsText at (cond b (suc n) (most ts at n))
      by true x y = x refl
      by false x y = y

  pub most_max : (at n m : ℕ) → IsText at n → n ≤ m → n ≤ most ts at m
  most_max at n zero h le = le
  most_max at n (suc m) h le = by (nat_le (at + suc m) (length ts) && matches AtComma [] (slice_range ts at (at + suc m))) refl (most_max at n m h)
    where
      full : suc m ≡ n → nat_le (at + suc m) (length ts) && matches AtComma [] (slice_range ts at (at + suc m)) ≡ true
      full e = let w = subst (IsText at) (sym e) h in rw (le-leb (at + suc m) (length ts) w.0, w.1) refl

      by : (b : Bool) → (nat_le (at + suc m) (length ts) && matches AtComma [] (slice_range ts at (at + suc m))) ≡ b → (n ≤ m → n ≤ most ts at m) → n ≤ cond b (suc m) (most ts at m)
      by true e more = le
      by false e more = elim (in_order n m) [
        | inl under ↦ more under
        | inr over ↦ clash (nat_le (at + suc m) (length ts) && matches AtComma [] (slice_range ts at (at + suc m))) (full (omega (arith, over, le))) e
      ]

  -- behind a shorter text a token stands with which it goes on
  behind : (at n m : ℕ) → IsText at n → IsText at m → n < m → has texts_go (kind_at ts (at + n)) ≡ true
  unfolding kind_at
  behind at n m h i lt =
      let e : (at + n) - at ≡ n = omega arith in
      let f : (at + m) - at ≡ m = omega arith in
      let t = inside AtComma [] (drop at ts) n m lt (omega (arith, length-drop at ts, i.0)) (subst (λ z. matches AtComma [] (take z (drop at ts)) ≡ true) e h.1) (subst (λ z. matches AtComma [] (take z (drop at ts)) ≡ true) f i.1) in
      subst (λ (o : Option DocToken). has texts_go (kind_of o) ≡ true) (sym t.1 ∙ dropped ts at n) (goes_on t.0.kind t.2.0 t.2.1)

  -- a token stands before the end
  before : (at : ℕ) → kind_at ts at ≡ k.Equals → at + 1 ≤ length ts
  unfolding kind_at
  before at h = let t = token_there (slice_get ts at) k.Equals refl h in omega (arith, slice_get_within ts at t.0 t.1)

  pub default_is : (at : ℕ) (y : Forest × ℕ) → default_text ts at ≡ Some y → Runs ts (symbols default_value) y.0 at y.1 × (height y.0 ≤ 0)
  default_is at y h =
      let a = bind_ok (after ts k.Equals at) _ y h in
      let e = after_is ts k.Equals at a.0 a.1 in
      let same = some_is (mark (any (most ts a.0 (length ts)) nil), a.0 + most ts a.0 (length ts)) y a.2 in
      let le : a.0 ≤ length ts = omega (arith, e.1, before at e.0) in
      subst (λ (z : Forest × ℕ). Runs ts (symbols default_value) z.0 at z.1 × (height z.0 ≤ 0)) same
      ((e.0, subst (λ z. Runs ts (Any AtComma ∷ []) (any (most ts a.0 (length ts)) nil) z (a.0 + most ts a.0 (length ts))) e.1 (let w = most_is a.0 (length ts) le in (w.0, w.1, refl))), omega arith)

  pub default_there : (ps : Forest) (at b : ℕ) → Runs ts (symbols default_value) ps at b → ReadsProduction ts default_value ps b (default_text ts at)
  default_there (mark (any n nil)) at b h =
      let m = most ts (at + 1) (length ts) in
      let text = most_is (at + 1) (length ts) (before at h.0) in
      let le = most_max (at + 1) n (length ts) (h.1.0, h.1.1) (omega (arith, h.1.0)) in
      ((mark (any m nil), at + 1 + m), rw (after_at ts k.Equals at refl h.0) refl, better m le (in_order m n), ends m text le (in_order m n))
    where
      better : (m : ℕ) → n ≤ m → (m ≤ n) ⊎ (n < m) → Better (symbols default_value) (mark (any m nil)) (mark (any n nil)) ⊎ Outgrown default_value (mark (any n nil)) (mark (any m nil))
      better m le (inl ge) = let e : n ≡ m = omega (arith, le, ge) in inl (inl (ap (λ z. mark (any z nil)) e))
      better m le (inr lt) = inr (refl, omega (arith, lt))

      ends : (m : ℕ) → IsText (at + 1) m → n ≤ m → (m ≤ n) ⊎ (n < m) → Reaches ts texts_go b (at + 1 + m)
      ends m text le (inl ge) = inl (omega (arith, le, ge, h.1.2))
      ends m text le (inr lt) = inr (omega (arith, lt, h.1.2), subst (λ z. has texts_go (kind_at ts z) ≡ true) h.1.2 (behind (at + 1) n m (h.1.0, h.1.1) text lt))
  default_there (mark (any n f)) at b h = absurd h.1.2
  default_there (mark f) at b h = absurd h.1
  default_there f at b h = absurd h
