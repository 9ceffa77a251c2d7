-- Runs of places: where they end.
use Rattle.std.proofs.Common.{◌≡◌, ℕ, ◌+◌, ◌-◌, ◌<◌, ◌≤◌, List, Bool, true, false, cond, length, zero, suc, refl, sym, arith, inl, inr, ◌⊎◌, ⊎_elim, ap, ◌∙◌}
use Rattle.std.proofs.lemmas.Bool.{cases_lt, false≢true}
use Rattle.stan_model_grammar.specs.Runs.{run_end, run_end_within, IsRun}

module _ (source : List ℕ) (test : ℕ → Bool) (at : ℕ) where
  pub run_end_past : length source ≤ at → run_end source test at ≡ at
  unfolding run_end run_end_within
  run_end_past h = let e : length source - at ≡ 0 = omega arith in rw e refl

  pub run_end_stops : test at ≡ false → run_end source test at ≡ at
  unfolding run_end run_end_within
  run_end_stops h = stops (length source - at)
    where
      stops : (left : ℕ) → run_end_within test left at ≡ at
      stops zero = refl
      stops (suc left) = rw h refl

  pub run_end_goes_on : at < length source → test at ≡ true → run_end source test (at + 1) ≡ run_end source test at
  unfolding run_end run_end_within
  run_end_goes_on lt h = let e : length source - at ≡ suc (length source - (at + 1)) = omega arith in rw (e, h) refl

module _ (source : List ℕ) (test : ℕ → Bool) where
  -- A run ends at its beginning or behind it.
  rises_within : (left from : ℕ) → from ≤ run_end_within test left from
  unfolding run_end_within
  rises_within zero from = omega arith
  rises_within (suc left) from = elim (test from) as (λ b. from ≤ cond b (run_end_within test left (from + 1)) from) [ true ↦ omega (arith, rises_within left (from + 1)) | false ↦ omega arith ]

  below_within : (left from : ℕ) → run_end_within test left from ≤ from + left
  unfolding run_end_within
  below_within zero from = omega arith
  below_within (suc left) from = elim (test from) as (λ b. cond b (run_end_within test left (from + 1)) from ≤ from + suc left) [ true ↦ omega (arith, below_within left (from + 1)) | false ↦ omega arith ]

  pub run_end_rises : (at : ℕ) → at ≤ run_end source test at
  unfolding run_end
  run_end_rises at = rises_within (length source - at) at

  pub run_end_below : (at : ℕ) → at ≤ length source → run_end source test at ≤ length source
  unfolding run_end
  run_end_below at h = omega (arith, below_within (length source - at) at)

  pub run_end_begins : (at : ℕ) → at < length source → test at ≡ true → at < run_end source test at
  run_end_begins at lt h = omega (arith, run_end_goes_on source test at lt h, run_end_rises (at + 1))

  -- Each place of a run passes.
  pub run_end_passes : (left at : ℕ) → at + left ≡ length source → (k : ℕ) → at ≤ k → k < run_end source test at → test k ≡ true
  run_end_passes zero at e k low high = absurd (omega (arith, run_end_past source test at (omega arith)))
  run_end_passes (suc left) at e k low high = ⊎_elim
      (λ yes. ⊎_elim (λ (less : at < k). run_end_passes left (at + 1) (omega arith) k (omega arith) (omega (arith, run_end_goes_on source test at (omega arith) yes)))
      (λ (more : k ≤ at). let same : k ≡ at = omega arith in ap test same ∙ yes) (cases_lt at k))
      (λ no. absurd (omega (arith, run_end_stops source test at no))) (either (test at))
    where
      either : (b : Bool) → (b ≡ true) ⊎ (b ≡ false)
      either true = inl refl
      either false = inr refl

  -- A run ends at a place that fails, or before it.
  pub run_end_before : (at k : ℕ) → at ≤ k → k < length source → test k ≡ false → run_end source test at ≤ k
  run_end_before at k le lt fails = ⊎_elim
      (λ (more : k < run_end source test at). absurd (false≢true (sym fails ∙ run_end_passes (length source - at) at (omega arith) k le more)))
      (λ le. le) (cases_lt k (run_end source test at))

  -- The run from one place on ends where it ends from a later place on, where all places between them pass.
  pub run_end_skips : (n at : ℕ) → at + n ≤ length source → ((k : ℕ) → at ≤ k → k < at + n → test k ≡ true) → run_end source test (at + n) ≡ run_end source test at
  run_end_skips zero at h all = ap (run_end source test) (omega arith)
  run_end_skips (suc n) at h all =
      let e : at + suc n ≡ (at + 1) + n = omega arith in
      ap (run_end source test) e ∙ run_end_skips n (at + 1) (omega arith) (λ k low high. all k (omega arith) (omega arith)) ∙ run_end_goes_on source test at (omega arith) (all at (omega arith) (omega arith))

  either_end : (left at : ℕ) → at + left ≡ length source → run_end source test at < length source → test (run_end source test at) ≡ false
  either_end zero at e lt = absurd (omega (arith, run_end_past source test at (omega arith)))
  either_end (suc left) at e lt = ⊎_elim
      (λ yes. let same = run_end_goes_on source test at (omega arith) yes in ap test (sym same) ∙ either_end left (at + 1) (omega arith) (omega (arith, same)))
      (λ no. ap test (run_end_stops source test at no) ∙ no) (either (test at))
    where
      either : (b : Bool) → (b ≡ true) ⊎ (b ≡ false)
      either true = inl refl
      either false = inr refl

  -- The place at which a run ends fails.
  pub run_end_fails : (at : ℕ) → at ≤ length source → run_end source test at < length source → test (run_end source test at) ≡ false
  run_end_fails at h lt = either_end (length source - at) at (omega arith) lt

  pub run_end_is_run : (at : ℕ) → at ≤ length source → IsRun source test at (run_end source test at)
  run_end_is_run at h = record {
    rises = run_end_rises at;
    within = run_end_below at h;
    passes = λ k low high. run_end_passes (length source - at) at (omega arith) k low high;
    stops = λ lt. run_end_fails at h lt;
  }

-- Two tests that agree from a place on have the same run from there.
module _ (source : List ℕ) (one other : ℕ → Bool) where
  same_within : (left at : ℕ) → ((k : ℕ) → at ≤ k → one k ≡ other k) → run_end_within one left at ≡ run_end_within other left at
  unfolding run_end_within
  same_within zero at h = refl
  same_within (suc left) at h = rw (h at (omega arith)) (ap (λ to. cond (other at) to at) (same_within left (at + 1) (λ k le. h k (omega arith))))

  pub run_end_same : (at : ℕ) → ((k : ℕ) → at ≤ k → one k ≡ other k) → run_end source one at ≡ run_end source other at
  unfolding run_end
  run_end_same at h = same_within (length source - at) at h

pub ruleset run_steps = (run_end_past, run_end_stops, run_end_goes_on)
