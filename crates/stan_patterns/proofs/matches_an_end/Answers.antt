use Rattle.std.proofs.Common.{arith, sym, ◌∙◌}
use Rattle.std.proofs.lemmas.Bool.{false≢true}
use Rattle.stan_patterns.proofs.PatternLemmas.{step, no_step, behind_last, length-front}
use Rattle.stan_patterns.proofs.matches_an_end.Goals as goal

pub returns-in_default-find : goal.returns-in_default-find
returns-in_default-find c = (
  λ no. absurd (false≢true no),
  λ h. absurd (no_step c.loop-at.later.now c.in-Some.at c.in-Some.ensures c.loop-at.rest.now c.in_default-find.ensures (c.loop-at.invariant.0 h)),
)

pub behind_run-rest-requires : goal.behind_run-rest-requires
behind_run-rest-requires c = omega (arith, c.in-Some-find.ensures.1.fits, length-front c.loop-at.later.now c.in-Some.at c.in-Some.ensures)

pub loop-at-preserved : goal.loop-at-preserved
loop-at-preserved c =
    let one = step c.loop-at.later.now c.in-Some.at c.in-Some.ensures c.loop-at.rest.now c.in-Some-find.place c.in-Some-find.ensures in
    rw (c.behind_run-rest.ensures, c.behind_run-later.ensures) (
      λ h. one.0 (c.loop-at.invariant.0 h),
      λ h. c.loop-at.invariant.1 (one.1 h),
    )

pub returns : goal.returns
returns c =
    let last = behind_last c.loop-at.later.now c.in_default.ensures c.loop-at.rest.now in (
      λ yes. c.loop-at.invariant.1 (last.0 (sym c.ends_with.ensures.value ∙ yes)),
      λ h. c.ends_with.ensures.value ∙ last.1 (c.loop-at.invariant.0 h),
    )
