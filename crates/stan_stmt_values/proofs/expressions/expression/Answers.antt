use Rattle.std.proofs.Common.{◌≡◌, ◌-◌, ◌+◌, ◌∙◌, sym, arith}
use Rattle.std.proofs.lemmas.Result.{err_from_is_err_and}
use Rattle.stan_syntax.specs.Tree.{tree_of}
use Rattle.stan_stmt_values.proofs.ExpressionLemmas.{fails, none_unended, none_deep, one_read}
use Rattle.stan_stmt_values.proofs.expressions.expression.Goals as goal

pub returns-in_err-e : goal.returns-in_err-e
returns-in_err-e g c =
    let p = err_from_is_err_and c.from_residual.result c.from_residual.ensures.1 in
    rw (p.1, p.2) (fails c.args.tokens.now c.args.levels c.args.pattern c.args.place c.in_err-e.field-0.0 (c.requires.reads.gives _ _ _ _ _ _ _ c.in_err-e.ensures))

pub returns-then-not-is_end : goal.returns-then-not-is_end
returns-then-not-is_end g c =
    none_unended c.args.tokens.now c.args.levels c.args.pattern c.args.place (tree_of c.in_ok-e.e) c.in_ok-e.to (c.requires.reads.gives _ _ _ _ _ _ _ c.in_ok-e.ensures)
    (rw (← c.kind_at.ensures) (sym c.is_end.ensures ∙ c.if-not-is_end.true))

pub returns-then-depth-levels : goal.returns-then-depth-levels
returns-then-depth-levels g c =
    none_deep c.args.tokens.now c.args.levels c.args.pattern c.args.place (tree_of c.in_ok-e.e) c.in_ok-e.to (c.requires.reads.gives _ _ _ _ _ _ _ c.in_ok-e.ensures)
    (omega (arith, c.if-depth-levels.true, c.depth.ensures.exact, c.if-levels-gt-MOST.false))

pub returns : goal.returns
returns g c =
    one_read c.args.tokens.now c.args.levels c.args.pattern c.args.place (tree_of c.in_ok-e.e) c.in_ok-e.to (c.requires.reads.gives _ _ _ _ _ _ _ c.in_ok-e.ensures)
    (rw (← c.kind_at.ensures) (sym c.is_end.ensures ∙ c.if-not-is_end.false))
    (omega (arith, c.if-depth-levels.false, c.depth.ensures.exact, c.if-levels-gt-MOST.false))
