use Rattle.std.proofs.Common.{◌≡◌, ◌-◌, ◌+◌, ◌≤◌}
use Rattle.stan_expr_rules.specs.Parse.{closing, closing_within}
use Rattle.stan_places.proofs.bodies.closing.Given as goal

abbrev pub invariant-loop-turn : goal.invariant-loop-turn
invariant-loop-turn l = (closing_within l.tokens (l._turn-end - l._turn) l.count l.place ≡ closing l.tokens l.from) × (l.count ≤ l._turn + 1) × (l.place ≡ l.from + l._turn)
