use Rattle.std.proofs.Common.{◌≡◌, ◌∙◌, sym, arith}
use Rattle.stan_stmt_values.specs.Held.{shapes_of}
use Rattle.stan_stmt_values.proofs.BodyLemmas.{at_last, past_call, past_body}
use Rattle.stan_stmt_values.proofs.bodies.read_bodies.Goals as goal
use Rattle.stan_stmt_values.proofs.bodies.read_bodies.Goals.{in-Call, in-Body+in_ok-read_body-in-Body+in_ok-push-in-Body}

pub loop-site-preserved : goal.loop-site-preserved
loop-site-preserved g c =
    let leaves = g.R.Reader.leaves c.args.parser.now.reader in
    elim c.match-site.branch [
      | in-Call w ↦ rw w.found-is (sym (past_call c.args.parser.now.tokens.now leaves c.args.depth.room c.args.depth.levels (shapes_of c.loop-site.found) c.args.sites.now c.loop-site.site-index _ w.in-Call.field-0 c.loop-site-test.true w.in-Call.is) ∙ c.loop-site.invariant)
      | in-Body+in_ok-read_body-in-Body+in_ok-push-in-Body w ↦
          rw (w.found-is, w.in_ok-push-in-Body.ensures.ok)
          (sym (past_body c.args.parser.now.tokens.now leaves c.args.depth.room c.args.depth.levels c.loop-site.found c.args.sites.now c.loop-site.site-index _ w.in-Body.held _ c.loop-site-test.true w.in-Body.is w.in_ok-read_body-in-Body.ensures.read w.in_ok-read_body-in-Body.ensures.held)
          ∙ c.loop-site.invariant)
    ]

pub returns : goal.returns
returns g c =
    sym c.loop-site.invariant
    ∙ at_last c.args.parser.now.tokens.now (g.R.Reader.leaves c.args.parser.now.reader) c.args.depth.room c.args.depth.levels (shapes_of c.loop-site.found) c.loop-site.site-index c.args.sites.now (omega (arith, c.loop-site-test.false))
