-- What a text is, by its tokens one after the other.
use Rattle.std.proofs.Common.{◌≡◌, ℕ, zero, suc, ◌+◌, ◌-◌, ◌≤◌, ◌<◌, Bool, true, false, cond, List, [], ◌∷◌, length, take, drop, length-drop, Option, Some, None, refl, sym, ap, subst, ◌∙◌, ◌⊎◌, inl, inr, arith, ◌&&◌}
use Rattle.std.specs.Prelude.{not, nat_le, slice_range, if◌then◌else◌, ◌||◌}
use Rattle.std.proofs.lemmas.Bool.{leb-true, le-leb}
use Rattle.stan_model_doc.specs.declared.token.DocKind.{DocKind}
use Rattle.stan_model_doc.specs.declared.token.DocToken.{DocToken}
use Rattle.stan_model_doc.specs.Tokens.{same_kind}
use Rattle.stan_model_doc.specs.Symbols.{Stop, Nowhere, AtComma}
use Rattle.stan_model_doc.specs.Grammar.{closer, is_closer, stops, matches}
use Rattle.stan_doc_descent.specs.Parse.{any_size, any_at}
use Rattle.stan_doc_descent.proofs.Words.{truth}
use Rattle.stan_doc_descent.proofs.Texts.{any_at_is}
use Rattle.stan_doc_texts.specs.Walk.{walk, by_turn, turn_of, left, opened, marked, is_outside}

-- the tokens before the first bracket that closes none of them: whether brackets match in them, and then how many there are
abbrev Sized : Stop → List DocKind → List DocToken → ℕ → ℕ × Bool → Type 0
Sized stop stack us k w = (matches stop stack (take (any_size stop stack us) us) ≡ w.1) × (w.1 ≡ true → w.0 ≡ k + any_size stop stack us)

abbrev pub awaiting : Option DocKind → List DocKind → List DocKind
awaiting None stack = stack
awaiting (Some close) stack = close ∷ stack

opened_is : (stack : List DocKind) (o : Option DocKind) → (elim o [ None ↦ stack | Some close ↦ close ∷ stack ]) ≡ awaiting o stack
opened_is stack None = refl
opened_is stack (Some close) = refl

-- a token with which the text goes on
one : (stop : Stop) (stack next : List DocKind) (t : DocToken) (ts : List DocToken) (k last l : ℕ) → ((us : List DocToken) → matches stop stack (t ∷ us) ≡ matches stop next us) → any_size stop stack (t ∷ ts) ≡ suc (any_size stop next ts)
    → walk stop stack (t ∷ ts) k last ≡ walk stop next ts (suc k) l → Sized stop next ts (suc k) (walk stop next ts (suc k) l) → Sized stop stack (t ∷ ts) k (walk stop stack (t ∷ ts) k last)
one stop stack next t ts k last l m s w h = rw (s, w) (m (take (any_size stop next ts) ts) ∙ h.0, λ i. omega (arith, h.1 i))

module _ (stop : Stop) (t : DocToken) where
  pub matches_outside : (o : Option DocKind) (us : List DocToken) → is_closer t.kind ≡ false → stops stop t.kind ≡ false → closer t.kind ≡ o → matches stop [] (t ∷ us) ≡ matches stop (awaiting o []) us
  matches_outside None us e f g = rw (e, f, g) refl
  matches_outside (Some close) us e f g = rw (e, f, g) refl

  size_outside : (o : Option DocKind) (us : List DocToken) → is_closer t.kind ≡ false → stops stop t.kind ≡ false → closer t.kind ≡ o → any_size stop [] (t ∷ us) ≡ suc (any_size stop (awaiting o []) us)
  size_outside None us e f g = rw (e, f, g) refl
  size_outside (Some close) us e f g = rw (e, f, g) refl

  pub walk_outside : (us : List DocToken) (k last : ℕ) → is_closer t.kind ≡ false → stops stop t.kind ≡ false → walk stop [] (t ∷ us) k last ≡ walk stop (awaiting (closer t.kind) []) us (suc k) k
  walk_outside us k last e f = rw (e, f) (ap (λ z. walk stop z us (suc k) k) (opened_is [] (closer t.kind)))

  module _ (a : DocKind) (outer : List DocKind) where
    pub matches_open : (o : Option DocKind) (us : List DocToken) → is_closer t.kind ≡ false → closer t.kind ≡ o → matches stop (a ∷ outer) (t ∷ us) ≡ matches stop (awaiting o (a ∷ outer)) us
    matches_open None us e g = rw (e, g) refl
    matches_open (Some close) us e g = rw (e, g) refl

    size_open : (o : Option DocKind) (us : List DocToken) → is_closer t.kind ≡ false → closer t.kind ≡ o → any_size stop (a ∷ outer) (t ∷ us) ≡ suc (any_size stop (awaiting o (a ∷ outer)) us)
    size_open None us e g = rw (e, g) refl
    size_open (Some close) us e g = rw (e, g) refl

    pub walk_open : (us : List DocToken) (k last : ℕ) → is_closer t.kind ≡ false → walk stop (a ∷ outer) (t ∷ us) k last ≡ walk stop (awaiting (closer t.kind) (a ∷ outer)) us (suc k) last
    walk_open us k last e = rw e (ap (λ z. walk stop z us (suc k) last) (opened_is (a ∷ outer) (closer t.kind)))

    pub matches_close : (us : List DocToken) → is_closer t.kind ≡ true → same_kind t.kind a ≡ true → matches stop (a ∷ outer) (t ∷ us) ≡ matches stop outer us
    matches_close us e f = rw (e, f) refl

    size_close : (us : List DocToken) → is_closer t.kind ≡ true → any_size stop (a ∷ outer) (t ∷ us) ≡ suc (any_size stop outer us)
    size_close us e = rw e refl

    pub walk_close : (us : List DocToken) (k last : ℕ) → is_closer t.kind ≡ true → same_kind t.kind a ≡ true → walk stop (a ∷ outer) (t ∷ us) k last ≡ walk stop outer us (suc k) last
    walk_close us k last e f = rw (e, f) refl

    broken : (us : List DocToken) (k last : ℕ) → is_closer t.kind ≡ true → same_kind t.kind a ≡ false → Sized stop (a ∷ outer) (t ∷ us) k (walk stop (a ∷ outer) (t ∷ us) k last)
    broken us k last e f = rw (size_close us e) (rw (e, f) refl, rw (e, f) (λ i. absurd cc))

  ended : (us : List DocToken) (k last : ℕ) → is_closer t.kind || stops stop t.kind ≡ true → Sized stop [] (t ∷ us) k (walk stop [] (t ∷ us) k last)
  ended us k last e = rw e (refl, λ i. omega arith)

pub either : (a b : Bool) → a || b ≡ false → (a ≡ false) × (b ≡ false)
either true b h = absurd cc
either false b h = (refl, h)

walk_sized : (stop : Stop) (stack : List DocKind) (us : List DocToken) (k last : ℕ) → Sized stop stack us k (walk stop stack us k last)
walk_sized stop [] [] k last = (refl, λ h. omega arith)
walk_sized stop (awaited ∷ outer) [] k last = (refl, λ h. absurd cc)
walk_sized stop [] (t ∷ ts) k last = by (truth (is_closer t.kind || stops stop t.kind)) (λ stack j l. walk_sized stop stack ts j l)
  where
    by : (is_closer t.kind || stops stop t.kind ≡ true) ⊎ (is_closer t.kind || stops stop t.kind ≡ false) → ((stack : List DocKind) (j l : ℕ) → Sized stop stack ts j (walk stop stack ts j l))
        → Sized stop [] (t ∷ ts) k (walk stop [] (t ∷ ts) k last)
    by (inl e) h = ended stop t ts k last e
    by (inr e) h =
        let f = either (is_closer t.kind) (stops stop t.kind) e in
        let o = closer t.kind in
        one stop [] (awaiting o []) t ts k last k (λ us. matches_outside stop t o us f.0 f.1 refl) (size_outside stop t o ts f.0 f.1 refl) (walk_outside stop t ts k last f.0 f.1) (h (awaiting o []) (suc k) k)
walk_sized stop (a ∷ outer) (t ∷ ts) k last = by (truth (is_closer t.kind)) (truth (same_kind t.kind a)) (λ stack j l. walk_sized stop stack ts j l)
  where
    by : (is_closer t.kind ≡ true) ⊎ (is_closer t.kind ≡ false) → (same_kind t.kind a ≡ true) ⊎ (same_kind t.kind a ≡ false) → ((stack : List DocKind) (j l : ℕ) → Sized stop stack ts j (walk stop stack ts j l))
        → Sized stop (a ∷ outer) (t ∷ ts) k (walk stop (a ∷ outer) (t ∷ ts) k last)
    by (inl e) (inl f) h = one stop (a ∷ outer) outer t ts k last last (λ us. matches_close stop t a outer us e f) (size_close stop t a outer ts e) (walk_close stop t a outer ts k last e f) (h outer (suc k) last)
    by (inl e) (inr f) h = broken stop t a outer ts k last e f
    by (inr e) f h =
        let o = closer t.kind in
        one stop (a ∷ outer) (awaiting o (a ∷ outer)) t ts k last last (λ us. matches_open stop t a outer o us e refl) (size_open stop t a outer o ts e refl) (walk_open stop t a outer ts k last e) (h (awaiting o (a ∷ outer)) (suc k) last)

any_small : (stop : Stop) (stack : List DocKind) (us : List DocToken) → any_size stop stack us ≤ length us
any_small stop stack [] = omega arith
any_small stop [] (t ∷ ts) = by (is_closer t.kind || stops stop t.kind) (closer t.kind) (λ stack. any_small stop stack ts)
  where
    by : (b : Bool) (o : Option DocKind) → ((stack : List DocKind) → any_size stop stack ts ≤ length ts)
        → cond b 0 (suc (elim o [ None ↦ any_size stop [] ts | Some close ↦ any_size stop (close ∷ []) ts ])) ≤ suc (length ts)
    by true o h = omega arith
    by false None h = omega (arith, h [])
    by false (Some close) h = omega (arith, h (close ∷ []))
any_small stop (awaited ∷ outer) (t ∷ ts) = by (is_closer t.kind) (closer t.kind) (λ stack. any_small stop stack ts)
  where
    by : (b : Bool) (o : Option DocKind) → ((stack : List DocKind) → any_size stop stack ts ≤ length ts)
        → cond b (suc (any_size stop outer ts)) (suc (elim o [ None ↦ any_size stop (awaited ∷ outer) ts | Some close ↦ any_size stop (close ∷ awaited ∷ outer) ts ])) ≤ suc (length ts)
    by true o h = omega (arith, h outer)
    by false None h = omega (arith, h (awaited ∷ outer))
    by false (Some close) h = omega (arith, h (close ∷ awaited ∷ outer))

-- so many tokens stand there, if the text goes on to where it has to end
pub any_walked : (ts : List DocToken) (stop : Stop) (at : ℕ) → at ≤ length ts → any_at ts stop at ≡ (let w = walk stop [] (drop at ts) 0 0 in if w.1 then Some w.0 else None)
unfolding any_at
any_walked ts stop at le =
    let us = drop at ts in
    let n = any_size stop [] us in
    let w = walk stop [] us 0 0 in
    let sized = walk_sized stop [] us 0 0 in
    let e : (at + n) - at ≡ n = omega arith in
    let within = le-leb (at + n) (length ts) (omega (arith, any_small stop [] us, length-drop at ts, le)) in
    let same : matches stop [] (slice_range ts at (at + n)) ≡ w.1 = subst (λ m. matches stop [] (take m us) ≡ w.1) (sym e) sized.0 in
    rw (within, same) (by w.1 sized.1)
  where
    by : (b : Bool) → (b ≡ true → (walk stop [] (drop at ts) 0 0).0 ≡ 0 + any_size stop [] (drop at ts)) → (if b then (let s : ℕ → Option ℕ = Some in s (any_size stop [] (drop at ts))) else None) ≡ (if b then Some (walk stop [] (drop at ts) 0 0).0 else None)
    by true h = ap Some (omega (arith, h refl))
    by false h = refl

-- beyond the end none stands
pub any_beyond : (ts : List DocToken) (stop : Stop) (at : ℕ) → length ts < at → any_at ts stop at ≡ None
unfolding any_at
any_beyond ts stop at lt = by (nat_le (at + any_size stop [] (drop at ts)) (length ts)) refl
  where
    by : (b : Bool) → nat_le (at + any_size stop [] (drop at ts)) (length ts) ≡ b → (if b && matches stop [] (slice_range ts at (at + any_size stop [] (drop at ts))) then (let s : ℕ → Option ℕ = Some in s (any_size stop [] (drop at ts))) else None) ≡ None
    by true e = absurd (omega (arith, leb-true (at + any_size stop [] (drop at ts)) (length ts) e, lt))
    by false e = refl

-- a text that goes on to where it has to end stands within the tokens
pub walked_within : (ts : List DocToken) (stop : Stop) (at size : ℕ) (whole : Bool) → at ≤ length ts → whole ≡ true → (size, whole) ≡ walk stop [] (drop at ts) 0 0 → at + size ≤ length ts
walked_within ts stop at size whole le is h =
    let there : any_at ts stop at ≡ Some size = any_walked ts stop at le ∙ rw (sym h, is) refl in
    (any_at_is ts stop at size there).0
