use Rattle.std.proofs.Common.{arith, sym}
use Rattle.stan_places.proofs.BraceLemmas.{braces_grow, brace_goes_on}
use Rattle.stan_places.proofs.bodies.closing.Goals as goal

pub loop-turn-preserved : goal.loop-turn-preserved
loop-turn-preserved c =
    let g = brace_goes_on c.args.tokens.now _ c.loop-turn._turn c.loop-turn.count c.loop-turn.place c.in_ok-token.token _ c.loop-turn-test.true c.loop-turn.invariant.0 (sym c.in_ok-token.ensures) (rw c.braces_behind-count.ensures at c.if-count-eq0.false) in
    let b = braces_grow c.loop-turn.count c.in_ok-token.token in
    (rw c.braces_behind-count.ensures g, rw c.braces_behind-count.ensures (omega (arith, b, c.loop-turn.invariant.1)), omega (arith, c.loop-turn.invariant.2))
