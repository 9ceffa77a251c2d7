use denote.Text.{Utf8}
use denote.Shadow.{shadow}
use Rattle.stan_neon_rows.proofs.shown.+put.Given as goal

abbrev pub decreases-put : goal.decreases-put
decreases-put l = goal.size-put l

abbrev pub invariant-loop-item : goal.invariant-loop-item
invariant-loop-item l = shadow (Utf8 l.separator)

abbrev pub invariant-loop-pair : goal.invariant-loop-pair
invariant-loop-pair l = shadow (Utf8 l.separator)
