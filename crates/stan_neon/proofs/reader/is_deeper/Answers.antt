use Rattle.std.proofs.Common.{◌≡◌, ◌∙◌, length, false, arith}
use Rattle.std.specs.Prelude.{nat_lt}
use Rattle.std.proofs.lemmas.Bool.Decides.{nat_tests}
use Rattle.stan_neon.proofs.IndentationLemmas.{deeper-is, deeper-not}
use Rattle.stan_neon.proofs.reader.is_deeper.Goals as goal

pub returns-then-outer-inner : goal.returns-then-outer-inner
returns-then-outer-inner c = c.eq.ensures ∙ deeper-is c.args.outer.now c.args.inner.now c.if-outer-inner.true

pub returns-else-outer-inner : goal.returns-else-outer-inner
returns-else-outer-inner c =
    let e = c.if-outer-inner.false in
    let f : nat_lt (length c.args.outer.now) (length c.args.inner.now) ≡ false = grind (arith, nat_tests) in
    f ∙ deeper-not c.args.outer.now c.args.inner.now e
