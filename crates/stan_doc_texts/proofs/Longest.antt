-- The longest text, by its tokens one after the other.
use Rattle.std.proofs.Common.{◌≡◌, ℕ, zero, suc, ◌+◌, ◌-◌, ◌≤◌, ◌<◌, Bool, true, false, cond, List, [], ◌∷◌, length, take, drop, length-drop, Option, Some, None, refl, sym, ap, subst, ◌∙◌, ◌⊎◌, inl, inr, arith, ◌&&◌, true≢false}
use Rattle.std.specs.Prelude.{nat_le, slice_range, ◌||◌, not}
use Rattle.stan_model_doc.specs.declared.token.DocKind.{DocKind}
use Rattle.stan_model_doc.specs.declared.token.DocToken.{DocToken}
use Rattle.stan_model_doc.specs.Tokens.{same_kind}
use Rattle.stan_model_doc.specs.Symbols.{Stop, AtComma}
use Rattle.stan_model_doc.specs.Grammar.{closer, is_closer, stops, matches}
use Rattle.stan_doc_descent.proofs.Words.{truth, or_split}
use Rattle.stan_doc_levels.specs.Levels.{most}
use Rattle.stan_doc_levels.proofs.DefaultLemmas.{IsText, nothing, most_is, most_max}
use Rattle.stan_doc_texts.specs.Walk.{walk, marked, is_outside}
use Rattle.stan_doc_texts.proofs.Extents.{awaiting, either, matches_outside, walk_outside, matches_open, walk_open, matches_close, walk_close}

-- so many of these tokens are a text
abbrev IsOne : Stop → List DocKind → List DocToken → ℕ → Type 0
IsOne stop stack us n = (n ≤ length us) × (matches stop stack (take n us) ≡ true)

-- no text is longer, and it is one, or the last place
abbrev IsMost : Stop → List DocKind → List DocToken → ℕ → ℕ → ℕ → Type 0
IsMost stop stack us k last w = ((n : ℕ) → IsOne stop stack us n → k + n ≤ w) × ((w ≡ last) ⊎ ((n : ℕ) × IsOne stop stack us n × (w ≡ k + n)))

module _ (stop : Stop) where
  further : (stack next : List DocKind) (t : DocToken) (ts : List DocToken) (k last : ℕ) → ((us : List DocToken) → matches stop stack (t ∷ us) ≡ matches stop next us)
      → walk stop stack (t ∷ ts) k last ≡ walk stop next ts (suc k) (marked stack k last) → IsMost stop next ts (suc k) (marked stack k last) (walk stop next ts (suc k) (marked stack k last)).0
      → IsMost stop stack (t ∷ ts) k last (walk stop stack (t ∷ ts) k last).0
  further [] next t ts k last m w h = rw w (above, there h.1)
    where
      above : (n : ℕ) → IsOne stop [] (t ∷ ts) n → k + n ≤ (walk stop next ts (suc k) k).0
      above zero i = elim h.1 [ inl e ↦ omega (arith, e) | inr e ↦ omega (arith, e.2) ]
      above (suc n) i = let x = h.0 n (omega (arith, i.0), sym (m (take n ts)) ∙ i.1) in omega (arith, x)

      there : ((walk stop next ts (suc k) k).0 ≡ k) ⊎ ((n : ℕ) × IsOne stop next ts n × ((walk stop next ts (suc k) k).0 ≡ suc k + n))
          → ((walk stop next ts (suc k) k).0 ≡ last) ⊎ ((n : ℕ) × IsOne stop [] (t ∷ ts) n × ((walk stop next ts (suc k) k).0 ≡ k + n))
      there (inl e) = inr (0, (omega arith, refl), omega (arith, e))
      there (inr e) = inr (suc e.0, (omega (arith, e.1.0), m (take e.0 ts) ∙ e.1.1), omega (arith, e.2))
  further (a ∷ outer) next t ts k last m w h = rw w (above, there h.1)
    where
      above : (n : ℕ) → IsOne stop (a ∷ outer) (t ∷ ts) n → k + n ≤ (walk stop next ts (suc k) last).0
      above zero i = absurd (let x = i.1 in cc)
      above (suc n) i = let x = h.0 n (omega (arith, i.0), sym (m (take n ts)) ∙ i.1) in omega (arith, x)

      there : ((walk stop next ts (suc k) last).0 ≡ last) ⊎ ((n : ℕ) × IsOne stop next ts n × ((walk stop next ts (suc k) last).0 ≡ suc k + n))
          → ((walk stop next ts (suc k) last).0 ≡ last) ⊎ ((n : ℕ) × IsOne stop (a ∷ outer) (t ∷ ts) n × ((walk stop next ts (suc k) last).0 ≡ k + n))
      there (inl e) = inl e
      there (inr e) = inr (suc e.0, (omega (arith, e.1.0), m (take e.0 ts) ∙ e.1.1), omega (arith, e.2))

  stopped : (t : DocToken) (us : List DocToken) → is_closer t.kind || stops stop t.kind ≡ true → matches stop [] (t ∷ us) ≡ false
  stopped t us e = by (is_closer t.kind) (stops stop t.kind) (or_split (is_closer t.kind) (stops stop t.kind) e)
    where
      by : (b s : Bool) → (b ≡ true) ⊎ (s ≡ true) → (not b && not s && (elim (closer t.kind) [ None ↦ matches stop [] us | Some close ↦ matches stop (close ∷ []) us ])) ≡ false
      by true s e = refl
      by false true e = refl
      by false false (inl e) = absurd cc
      by false false (inr e) = absurd cc

  ended : (t : DocToken) (ts : List DocToken) (k last : ℕ) → is_closer t.kind || stops stop t.kind ≡ true → IsMost stop [] (t ∷ ts) k last (walk stop [] (t ∷ ts) k last).0
  ended t ts k last e = rw e (above, inr (0, (omega arith, refl), omega arith))
    where
      above : (n : ℕ) → IsOne stop [] (t ∷ ts) n → k + n ≤ k
      above zero i = omega arith
      above (suc n) i = absurd (true≢false (sym i.1 ∙ stopped t (take n ts) e))

  broken : (t : DocToken) (a : DocKind) (outer : List DocKind) (ts : List DocToken) (k last : ℕ) → is_closer t.kind ≡ true → same_kind t.kind a ≡ false → IsMost stop (a ∷ outer) (t ∷ ts) k last (walk stop (a ∷ outer) (t ∷ ts) k last).0
  broken t a outer ts k last e f = rw (e, f) (above, inl refl)
    where
      wrong : (us : List DocToken) → matches stop (a ∷ outer) (t ∷ us) ≡ false
      wrong us = rw (e, f) refl

      above : (n : ℕ) → IsOne stop (a ∷ outer) (t ∷ ts) n → k + n ≤ last
      above zero i = absurd (let x = i.1 in cc)
      above (suc n) i = absurd (true≢false (sym i.1 ∙ wrong (take n ts)))

  walk_most : (stack : List DocKind) (us : List DocToken) (k last : ℕ) → IsMost stop stack us k last (walk stop stack us k last).0
  walk_most [] [] k last = (λ n i. omega (arith, i.0), inr (0, (omega arith, refl), omega arith))
  walk_most (a ∷ outer) [] k last = (nothing_there, inl refl)
    where
      nothing_there : (n : ℕ) → IsOne stop (a ∷ outer) [] n → k + n ≤ last
      nothing_there zero i = absurd (let x = i.1 in cc)
      nothing_there (suc n) i = absurd (omega (arith, i.0))
  walk_most [] (t ∷ ts) k last = by (truth (is_closer t.kind || stops stop t.kind)) (λ stack j l. walk_most stack ts j l)
    where
      by : (is_closer t.kind || stops stop t.kind ≡ true) ⊎ (is_closer t.kind || stops stop t.kind ≡ false) → ((stack : List DocKind) (j l : ℕ) → IsMost stop stack ts j l (walk stop stack ts j l).0)
          → IsMost stop [] (t ∷ ts) k last (walk stop [] (t ∷ ts) k last).0
      by (inl e) h = ended t ts k last e
      by (inr e) h =
          let f = either (is_closer t.kind) (stops stop t.kind) e in
          let o = closer t.kind in
          further [] (awaiting o []) t ts k last (λ us. matches_outside stop t o us f.0 f.1 refl) (walk_outside stop t ts k last f.0 f.1) (h (awaiting o []) (suc k) k)
  walk_most (a ∷ outer) (t ∷ ts) k last = by (truth (is_closer t.kind)) (truth (same_kind t.kind a)) (λ stack j l. walk_most stack ts j l)
    where
      by : (is_closer t.kind ≡ true) ⊎ (is_closer t.kind ≡ false) → (same_kind t.kind a ≡ true) ⊎ (same_kind t.kind a ≡ false) → ((stack : List DocKind) (j l : ℕ) → IsMost stop stack ts j l (walk stop stack ts j l).0)
          → IsMost stop (a ∷ outer) (t ∷ ts) k last (walk stop (a ∷ outer) (t ∷ ts) k last).0
      by (inl e) (inl f) h = further (a ∷ outer) outer t ts k last (λ us. matches_close stop t a outer us e f) (walk_close stop t a outer ts k last e f) (h outer (suc k) last)
      by (inl e) (inr f) h = broken t a outer ts k last e f
      by (inr e) f h =
          let o = closer t.kind in
          further (a ∷ outer) (awaiting o (a ∷ outer)) t ts k last (λ us. matches_open stop t a outer o us e refl) (walk_open stop t a outer ts k last e) (h (awaiting o (a ∷ outer)) (suc k) last)

module _ (ts : List DocToken) (at : ℕ) (le : at ≤ length ts) where
  abbrev W : ℕ
  W = (walk AtComma [] (drop at ts) 0 0).0

  text_there : (n : ℕ) → IsOne AtComma [] (drop at ts) n → IsText ts at n
  text_there n i =
      let e : (at + n) - at ≡ n = omega arith in
      (omega (arith, i.0, length-drop at ts, le), subst (λ m. matches AtComma [] (take m (drop at ts)) ≡ true) (sym e) i.1)

  one_there : (n : ℕ) → IsText ts at n → IsOne AtComma [] (drop at ts) n
  one_there n i =
      let e : (at + n) - at ≡ n = omega arith in
      (omega (arith, i.0, length-drop at ts), subst (λ m. matches AtComma [] (take m (drop at ts)) ≡ true) e i.1)

  pub most_walked : most ts at (length ts) ≡ W
  most_walked =
      let w = walk_most AtComma [] (drop at ts) 0 0 in
      let m = most ts at (length ts) in
      let up = w.0 m (one_there m (most_is ts at (length ts) le)) in
      let is : IsText ts at W = elim w.1 [ inl e ↦ subst (IsText ts at) (sym e) (nothing ts at le) | inr e ↦ subst (IsText ts at) (sym (omega (arith, e.2))) (text_there e.0 e.1) ] in
      let down = most_max ts at W (length ts) is (omega (arith, is.0)) in
      omega (arith, up, down)
