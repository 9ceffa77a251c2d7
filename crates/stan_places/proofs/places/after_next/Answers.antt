use Rattle.std.proofs.Common.{arith, refl, ◌+◌}
use Rattle.std.proofs.lemmas.Option.{slice_get_past}
use Rattle.stan_expr_rules.specs.Places.{after}
use Rattle.stan_places.proofs.places.after_next.Goals as goal

pub returns-else-at-tokens : goal.returns-else-at-tokens
unfolding after
returns-else-at-tokens c = rw (slice_get_past c.args.tokens.now (c.args.at + 1) (omega arith)) refl
