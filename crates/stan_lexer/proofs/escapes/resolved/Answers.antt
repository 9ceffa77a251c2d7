use Rattle.std.proofs.Common.{◌≤◌, ◌+◌, ◌++◌, ◌∙◌, ap, refl, arith, eq-eqb, length, drop, length-drop}
use Rattle.std.proofs.lemmas.List.{append_assoc, take_rest}
use Rattle.stan_lexer.proofs.ValueLemmas.{resolved_escape}
use Rattle.stan_lexer.proofs.escapes.resolved.Goals as goal

pub loop-at-preserved-then-bytes-at-eq92 : goal.loop-at-preserved-then-bytes-at-eq92
loop-at-preserved-then-bytes-at-eq92 c =
    let bytes = c.args.bytes.now in
    let at = c.loop-at.at in
    let rest = take_rest bytes (at + 1) in
    let used : c.in_ok-at.field-0 ≤ length (drop (at + 1) bytes) = rw rest at c.in_ok-at.ensures.within in
    record {
      within = omega (arith, used, length-drop (at + 1) bytes);
      same = rw (c.in_ok-at.ensures.value.0, append_assoc)
          (ap (λ tail. c.loop-at.out.items ++ tail)
          (resolved_escape c.args.quoted bytes at c.loop-at-test.true (eq-eqb _ _ c.if-bytes-at-eq92.true) _ c.in_ok-at.field-0 _ rest c.in_ok-at.ensures.value.1 refl)
          ∙ c.loop-at.invariant.same);
    }
