use Rattle.stan_expr_rules.specs.Parse.{alternative}
use Rattle.stan_places.proofs.Loops.{loop_takes}
use Rattle.stan_places.proofs.types.alternatives.Goals as goal

pub loop-turn-preserved : goal.loop-turn-preserved
loop-turn-preserved c =
    rw c.in_ok-push-in-Some.ensures.ok (loop_takes (alternative c.args.tokens.now) _ c.loop-turn._turn c.loop-turn.found c.loop-turn.place _ c.in-Some.item c.in-Some.to c.loop-turn-test.true c.loop-turn.invariant (rw c.in-Some.is at c.in_ok-alternative.ensures))
