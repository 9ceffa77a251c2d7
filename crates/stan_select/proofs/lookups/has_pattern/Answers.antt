use Rattle.std.proofs.Common.{arith}
use Rattle.std.proofs.lemmas.Bool.{false≢true}
use Rattle.stan_select.proofs.LookupLemmas.{no_pattern}
use Rattle.stan_select.proofs.lookups.has_pattern.Goals as goal

pub returns : goal.returns
returns c = (
  λ t. absurd (false≢true t),
  λ h. absurd (no_pattern c.args.patterns.now c.args.file.now (λ at pattern lt is m. c.loop-pattern.invariant at pattern (omega arith) is m) h),
)
