use Rattle.std.proofs.Common.{sym, subst, arith}
use Rattle.stan_stmt_bodies.specs.Values.{leaves_of}
use Rattle.stan_stmt.specs.Fronts.{NextIs}
use Rattle.stan_stmt.proofs.FrontLemmas.{SoFar, first, one_more, rises, longest}
use Rattle.stan_stmt.proofs.fronts.read_front.Goals as goal

pub loop-tops-init : goal.loop-tops-init
loop-tops-init c = subst (λ z. SoFar c.args.source.now c.args.tokens.now 1406 z 0) (sym c.new-tops.ensures) (first c.args.source.now c.args.tokens.now 1406)

pub returns-in-None : goal.returns-in-None
returns-in-None c = (
  longest c.args.source.now c.args.tokens.now 1406 c.loop-tops.tops c.loop-tops.place c.loop-tops.invariant (omega arith)
      (subst (NextIs c.args.tokens.now (leaves_of c.args.source.now) (record { room = 1406; levels = 0 }) c.loop-tops.place) c.in-None.is c.in_ok-next_top.ensures),
  c.loop-tops.invariant.inside_tokens,
)

pub loop-tops-smaller : goal.loop-tops-smaller
loop-tops-smaller c =
    let next = subst (NextIs c.args.tokens.now (leaves_of c.args.source.now) (record { room = 1406; levels = 0 }) c.loop-tops.place) c.in-Some.is c.in_ok-next_top.ensures in
    let more = one_more c.args.source.now c.args.tokens.now 1406 c.loop-tops.tops c.loop-tops.place c.loop-tops.invariant c.in-Some.top c.in-Some.to next in
    omega (arith, rises c.args.source.now c.args.tokens.now 1406 c.loop-tops.tops c.loop-tops.place c.loop-tops.invariant c.in-Some.top c.in-Some.to next, more.inside_tokens)

pub loop-tops-preserved : goal.loop-tops-preserved
loop-tops-preserved c =
    let next = subst (NextIs c.args.tokens.now (leaves_of c.args.source.now) (record { room = 1406; levels = 0 }) c.loop-tops.place) c.in-Some.is c.in_ok-next_top.ensures in
    let more = one_more c.args.source.now c.args.tokens.now 1406 c.loop-tops.tops c.loop-tops.place c.loop-tops.invariant c.in-Some.top c.in-Some.to next in
    subst (λ z. SoFar c.args.source.now c.args.tokens.now 1406 z c.in-Some.to) (sym c.in_ok-push-in-Some.ensures.ok) more
