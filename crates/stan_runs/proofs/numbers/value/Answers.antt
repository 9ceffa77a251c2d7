use Rattle.std.proofs.Common.{arith}
use Rattle.stan_runs.specs.declared.numbers.TheConstants.{GREATEST}
use Rattle.stan_runs.proofs.NumberLemmas.{value_above}
use Rattle.stan_runs.proofs.numbers.value.Goals as goal

pub returns-in-None : goal.returns-in-None
returns-in-None c =
    value_above c.args.base c.loop-digit.value GREATEST c.args.digits.now c.loop-digit.digit-index c.requires (omega arith) c.in-None.ensures c.loop-digit.invariant.same
