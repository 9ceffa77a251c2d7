use Rattle.std.proofs.Common.{◌≡◌, ◌-◌}
use Rattle.stan_expr_rules.specs.Parse.{many, alternative, alternatives}
use Rattle.stan_places.proofs.types.alternatives.Given as goal

abbrev pub invariant-loop-turn : goal.invariant-loop-turn
invariant-loop-turn l = many (alternative l.tokens) (l._turn-end - l._turn) l.found l.place ≡ alternatives l.tokens l.at
