use Rattle.std.proofs.Common.{◌≡◌, ◌-◌, arith, sym, ap, ◌∙◌, true}
use Rattle.stan_model_grammar.specs.Depth.{depth}
use Rattle.stan_model_grammar.specs.Strata.{kind_at, is_end}
use Rattle.stan_syntax.specs.Tree.{tree_of}
use Rattle.stan_expr_takes.proofs.Takes.{has_tree}
use Rattle.stan_expr.proofs.Answer.{too_deep, none_read, same_read, is_read, not_both, as_true}
use Rattle.stan_expr.proofs.parser.expression.Goals as goal

pub returns-then-levels-gt-MAX_DEPTH : goal.returns-then-levels-gt-MAX_DEPTH
returns-then-levels-gt-MAX_DEPTH c = λ t to h e. let p = has_tree c.args.tokens.now t c.args.at to h e in (p.0, p.1, omega (arith, c.if-levels-gt-MAX_DEPTH.true))

pub overflow_cast-result : goal.overflow_cast-result
overflow_cast-result c = let i = (is_read c.args.tokens.now _ c.args.at c.in-Ok.to (tree_of c.in-Ok.e) c.in-Ok.ensures).1 in omega (arith, i)

pub returns-in-Err-Absent : goal.returns-in-Err-Absent
returns-in-Err-Absent c = λ t to h e.
    too_deep c.args.tokens.now c.args.levels (200 - c.args.levels) c.args.at to t h e (omega arith) (λ g p d. none_read c.args.tokens.now _ c.args.at to g (rw c.in-Err-Absent.field-0-is at c.in-Err-Absent.ensures) p d)

pub returns-then-not-is_end : goal.returns-then-not-is_end
returns-then-not-is_end c = λ t to h e.
    too_deep c.args.tokens.now c.args.levels (200 - c.args.levels) c.args.at to t h e (omega arith) (λ g p d.
    let s = same_read c.args.tokens.now _ c.args.at to c.in-Ok.to (tree_of c.in-Ok.e) g c.in-Ok.ensures p d in
    not_both (is_end c.kind_at.result) (rw (c.kind_at.ensures, s.1) e) (sym c.is_end.ensures ∙ c.if-not-is_end.true))

pub returns-then-most-depth : goal.returns-then-most-depth
returns-then-most-depth c = λ t to h e.
    too_deep c.args.tokens.now c.args.levels (200 - c.args.levels) c.args.at to t h e (omega arith) (λ g p d.
    let s = same_read c.args.tokens.now _ c.args.at to c.in-Ok.to (tree_of c.in-Ok.e) g c.in-Ok.ensures p d in
    let z : depth (tree_of c.in-Ok.e) ≡ depth g = ap depth s.0 in
    omega (arith, c.if-most-depth.true, c.depth.ensures.exact, z, d))

pub returns-else-most-depth : goal.returns-else-most-depth
returns-else-most-depth c =
    let r = is_read c.args.tokens.now _ c.args.at c.in-Ok.to (tree_of c.in-Ok.e) c.in-Ok.ensures in
    let q : is_end (kind_at c.args.tokens.now c.in-Ok.to) ≡ true = rw (← c.kind_at.ensures) (sym c.is_end.ensures ∙ c.if-not-is_end.false) in
    (r.0, as_true (is_end (kind_at c.args.tokens.now c.in-Ok.to)) q, omega (arith, c.if-most-depth.false, c.depth.ensures.exact))
