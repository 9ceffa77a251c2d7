use Rattle.std.specs.Prelude.{◌↔◌, length}
use Rattle.stan_patterns.specs.Patterns.{BehindAny, Matches}
use Rattle.stan_patterns.proofs.matches_an_end.Given as goal

-- what is left of both decides
abbrev pub invariant-loop-at : goal.invariant-loop-at
invariant-loop-at l = BehindAny (Matches l.pattern) l.text ↔ BehindAny (Matches l.later) l.rest

abbrev pub decreases-loop-at : goal.decreases-loop-at
decreases-loop-at l = length l.later
