use Rattle.std.proofs.Common.{◌≡◌, ℕ, ◌-◌, ◌+◌, ◌≤◌, ◌<◌, ◌⊎◌, inl, inr, arith}
use Rattle.std.proofs.lemmas.Result.{err_from_is_err_and}
use Rattle.stan_syntax.specs.Tree.{tree_of}
use Rattle.stan_expr_rules.specs.Parse.{below}
use Rattle.stan_expr_rules.specs.Places.{joins_at}
use Rattle.stan_expr_operators.proofs.StrataLemmas.{operand_fails, stratum_fails}
use Rattle.stan_expr_reader.proofs.SkipLemmas.{strata_skip, strata_next}
use Rattle.stan_expr_reader.proofs.operators.strata.Goals as goal

which : (j k done stratum : ℕ) → j ≡ k → (j ≤ done) ⊎ ((done < j) × (stratum < j)) → (k ≤ done) ⊎ (stratum < k)
which j k done stratum same (inl l) = inl (omega (arith, same, l))
which j k done stratum same (inr l) = inr (omega (arith, same, l.1))

pub returns-in_err-left : goal.returns-in_err-left
returns-in_err-left g c =
    let p = err_from_is_err_and c.from_residual.result c.from_residual.ensures.1 in
    rw (p.1, p.2) (operand_fails c.args.grammar.now.tokens.now (below c.args.grammar.now.tokens.now c.args.grammar.now.depth) c.args.pattern (c.args.stratum - 5) c.args.place c.in_err-left.field-0.0 c.in_err-left.ensures)

pub returns-then-next-done : goal.returns-then-next-done
returns-then-next-done g c =
    let ts = c.args.grammar.now.tokens.now in
    let inv = c.loop-done.invariant in
    let next = c.joins_at-next.ensures in
    let stays : (joins_at ts c.loop-done.to ≤ c.loop-done.done) ⊎ (c.args.stratum < joins_at ts c.loop-done.to) = which c.joins_at-next.result (joins_at ts c.loop-done.to) c.loop-done.done c.args.stratum next c.then-next-done.either in
    strata_skip ts (below ts c.args.grammar.now.depth) c.args.pattern c.args.place c.loop-done.to (tree_of c.loop-done.left) c.loop-done.done c.args.stratum inv.least (omega (arith, c.loop-done-test.true)) inv.read stays

pub returns-in_err-e : goal.returns-in_err-e
returns-in_err-e g c =
    let ts = c.args.grammar.now.tokens.now in
    let inv = c.loop-done.invariant in
    let next = c.joins_at-next.result in
    let p = err_from_is_err_and c.from_residual-in_err-e.result c.from_residual-in_err-e.ensures.1 in
    let this : next ≡ next - 6 + 6 = omega (arith, c.if-next-done.false, inv.least) in
    let before = strata_skip ts (below ts c.args.grammar.now.depth) c.args.pattern c.args.place c.loop-done.to (tree_of c.loop-done.left) c.loop-done.done (next - 1) inv.least (omega (arith, c.if-next-done.false)) inv.read (inr (omega (arith, c.joins_at-next.ensures, c.if-next-done.false))) in
    let one : next - 1 - 5 ≡ next - 6 = omega arith in
    rw (p.1, p.2) (stratum_fails ts (below ts c.args.grammar.now.depth) c.args.pattern (next - 6) (c.args.stratum - 5) c.args.place c.loop-done.to (tree_of c.loop-done.left) c.in_err-e.field-0.0 (omega (arith, c.if-next-done.false, c.if-stratum-next.false, inv.least)) (rw one at before) (rw this at c.in_err-e.ensures))

pub loop-done-preserved : goal.loop-done-preserved
loop-done-preserved g c =
    let ts = c.args.grammar.now.tokens.now in
    let inv = c.loop-done.invariant in
    let next = c.joins_at-next.result in
    let before = strata_skip ts (below ts c.args.grammar.now.depth) c.args.pattern c.args.place c.loop-done.to (tree_of c.loop-done.left) c.loop-done.done (next - 1) inv.least (omega (arith, c.if-next-done.false)) inv.read (inr (omega (arith, c.joins_at-next.ensures, c.if-next-done.false))) in
    let one : next - 1 - 5 ≡ next - 6 = omega arith in
    record {
      read = strata_next ts (below ts c.args.grammar.now.depth) c.args.pattern c.args.place c.loop-done.to (tree_of c.loop-done.left) next (tree_of c.in_ok-e.e) c.in_ok-e.end (omega (arith, c.if-next-done.false, inv.least)) (rw one at before) c.in_ok-e.ensures;
      least = omega (arith, c.if-next-done.false, inv.least);
      most = omega (arith, c.if-stratum-next.false);
    }
