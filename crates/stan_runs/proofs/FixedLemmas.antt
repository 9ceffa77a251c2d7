-- The steps over the fixed bytes of a text.
use Rattle.std.proofs.Common.{◌≡◌, ℕ, ◌+◌, ◌-◌, ◌≤◌, List, false, suc, refl, arith}
use Rattle.std.specs.Prelude.{◌==◌, ◌&&◌, not, slice_index}
use Rattle.stan_model_grammar.specs.Texts.{is_escaped}
use Rattle.stan_runs.proofs.RunLemmas.{run_end_past, run_end_stops, run_end_goes_on}

module _ (source : List ℕ) (from to : ℕ) where
  -- whether the next byte is escaped
  pub is_escaped_next : from ≤ to → is_escaped source from ((to + 1) - from) ≡ (not (is_escaped source from (to - from)) && (slice_index source to == 92))
  unfolding is_escaped
  is_escaped_next h =
      let e : (to + 1) - from ≡ suc (to - from) = omega arith in
      let f : from + (to - from) ≡ to = omega arith in
      rw (e, f) refl

pub is_escaped_first : (source : List ℕ) (from : ℕ) → is_escaped source from (from - from) ≡ false
unfolding is_escaped
is_escaped_first source from = let e : from - from ≡ 0 = omega arith in rw e refl

pub ruleset fixed_steps = (is_escaped_next, is_escaped_first, run_end_past, run_end_stops, run_end_goes_on)
