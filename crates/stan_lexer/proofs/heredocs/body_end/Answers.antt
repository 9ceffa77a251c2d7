use Rattle.std.proofs.Common.{◌∙◌, sym, arith}
use Rattle.stan_lexer.proofs.HeredocLemmas.{line_same, line_begins, body_end_stops, body_end_past}
use Rattle.stan_lexer.proofs.heredocs.body_end.Goals as goal

pub loop-at-preserved : goal.loop-at-preserved
loop-at-preserved c =
    let source = c.args.source.now in
    let label = c.args.label.now in
    let goes_on = sym c.line_closes.ensures.value ∙ c.if-not-line_closes.true in
    record {
      rises = omega arith;
      within = omega arith;
      begins = line_begins source label c.args.body c.loop-at.at c.next_line-at.result c.loop-at.invariant.rises c.loop-at-test.true goes_on c.next_line-at.ensures.value;
      same = line_same source label c.args.body c.loop-at.at c.next_line-at.result c.loop-at.invariant.rises c.loop-at-test.true goes_on c.next_line-at.ensures.value ∙ c.loop-at.invariant.same;
    }

pub returns-else-not-line_closes-clause-value : goal.returns-else-not-line_closes-clause-value
returns-else-not-line_closes-clause-value c =
    body_end_stops c.args.source.now c.args.label.now c.args.body c.loop-at.at (c.loop-at.invariant.begins c.loop-at-test.true)
    (sym c.line_closes.ensures.value ∙ c.if-not-line_closes.false) c.loop-at.invariant.same

pub returns-after-loop-at-clause-value : goal.returns-after-loop-at-clause-value
returns-after-loop-at-clause-value c = body_end_past c.args.source.now c.args.label.now c.args.body c.loop-at.at c.loop-at-test.false c.loop-at.invariant.same
