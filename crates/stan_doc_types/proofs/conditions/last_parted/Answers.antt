use Rattle.std.proofs.Common.{refl, arith}
use Rattle.stan_doc_types.proofs.Parting.{starts, turn_found, turn_lost, no_turn}
use Rattle.stan_doc_types.proofs.conditions.last_parted.Goals as goal

pub loop-turn-init : goal.loop-turn-init
loop-turn-init g c = (refl, starts c.args.parser.now.tokens.now c.args.levels c.args.from _ refl)

pub returns-in-Ok : goal.returns-in-Ok
returns-in-Ok g c = turn_found c.args.parser.now.tokens.now c.args.levels c.args.from _ _ _ _ c.loop-turn-test.true c.loop-turn.invariant.1 c.in-Ok.ensures

pub loop-turn-preserved : goal.loop-turn-preserved
loop-turn-preserved g c =
    (c.loop-turn.invariant.0, turn_lost c.args.parser.now.tokens.now c.args.levels c.args.from _ _ _ c.loop-turn-test.true c.loop-turn.invariant.1 (rw c.in-Err-Absent.field-0-is at c.in-Err-Absent.ensures))

pub returns : goal.returns
returns g c = no_turn c.args.parser.now.tokens.now c.args.levels c.args.from _ _ _ (omega (arith, c.loop-turn-test.false)) c.loop-turn.invariant.1
