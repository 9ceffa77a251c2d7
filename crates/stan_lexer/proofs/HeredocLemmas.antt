-- The search for the last line of a heredoc, line by line.
use Rattle.std.proofs.Common.{◌≡◌, ℕ, ◌+◌, ◌-◌, ◌<◌, ◌≤◌, List, Bool, true, false, length, min, refl, sym, ap, ◌∙◌, arith, ⊎_elim}
use Rattle.std.specs.Prelude.{◌==◌, ◌||◌, ◌&&◌, not, slice_index, IsTrue}
use Rattle.std.proofs.lemmas.Bool.{cases_lt, false≢true, ne_eqb}
use Rattle.stan_model_grammar.specs.Runs.{run_end, line_at}
use Rattle.stan_model_grammar.specs.Heredocs.{line_closes, closes, body_end}
use Rattle.stan_runs.proofs.RunLemmas.{run_end_past, run_end_stops, run_end_skips, run_end_passes, run_end_fails, run_end_rises}

module _ (source label : List ℕ) (body : ℕ) where
  -- A line begins there.
  abbrev pub BeginsLine : ℕ → Type 0
  BeginsLine k = IsTrue ((k == body) || (slice_index source (k - 1) == 10))

  -- no last line begins there
  abbrev pub passed : ℕ → Bool
  passed k = not (closes source label body k)

  no_line : (k : ℕ) → (k == body) ≡ false → (slice_index source (k - 1) == 10) ≡ false → passed k ≡ true
  no_line k a b = rw (a, b) refl

  no_last : (k : ℕ) → line_closes source label k ≡ false → passed k ≡ true
  no_last k e = rw e (elim ((k == body) || (slice_index source (k - 1) == 10)) as (λ b. not (b && false) ≡ true) [ true ↦ refl | false ↦ refl ])

not_true : (b : Bool) → not b ≡ true → b ≡ false
not_true true h = absurd (false≢true h)
not_true false h = refl

not_false : (b : Bool) → not b ≡ false → b ≡ true
not_false true h = refl
not_false false h = absurd (false≢true (sym h))

module _ (source label : List ℕ) (body at next : ℕ) (low : body ≤ at) (lt : at < length source) (goes_on : line_closes source label at ≡ false)
    (is : next ≡ min (run_end source (line_at source) at + 1) (length source)) where
  -- No last line begins between the beginnings of two lines.
  between : (k : ℕ) → at ≤ k → k < next → passed source label body k ≡ true
  between k from to = ⊎_elim
      (λ (h : at < k).
      let inside : line_at source (k - 1) ≡ true = run_end_passes source (line_at source) (length source - at) at (omega arith) (k - 1) (omega arith) (omega arith) in
      no_line source label body k (ne_eqb k body (λ (e : k ≡ body). omega arith)) (not_true (slice_index source (k - 1) == 10) inside))
      (λ (h : k ≤ at). let e : k ≡ at = omega arith in ap (passed source label body) e ∙ no_last source label body at goes_on)
      (cases_lt at k)

  pub line_same : run_end source (passed source label body) next ≡ run_end source (passed source label body) at
  line_same =
      let rises = run_end_rises source (line_at source) at in
      let e : at + (next - at) ≡ next = omega arith in
      sym (ap (run_end source (passed source label body)) e)
      ∙ run_end_skips source (passed source label body) (next - at) at (omega arith) (λ k from to. between k from (omega arith))

  pub line_begins : next < length source → BeginsLine source label body next
  line_begins h =
      let end = run_end source (line_at source) at in
      let e : next - 1 ≡ end = omega arith in
      let feed : (slice_index source end == 10) ≡ true = not_false _ (run_end_fails source (line_at source) at (omega arith) (omega arith)) in
      rw (e, feed) (elim (next == body) as (λ b. IsTrue (b || true)) [ true ↦ refl | false ↦ refl ])

-- A line that closes the body ends it, and so does the end of the source.
pub body_end_stops : (source label : List ℕ) (body at : ℕ) → BeginsLine source label body at → line_closes source label at ≡ true
    → run_end source (passed source label body) at ≡ run_end source (passed source label body) body → at ≡ body_end source label body
unfolding body_end
body_end_stops source label body at begins closes same =
    let e : passed source label body at ≡ false = rw (closes, begins) refl in
    sym (run_end_stops source (passed source label body) at e) ∙ same

pub body_end_past : (source label : List ℕ) (body at : ℕ) → length source ≤ at
    → run_end source (passed source label body) at ≡ run_end source (passed source label body) body → at ≡ body_end source label body
unfolding body_end
body_end_past source label body at past same = sym (run_end_past source (passed source label body) at past) ∙ same
