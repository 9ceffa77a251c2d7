use Rattle.stan_select.proofs.LookupLemmas.{NoPatternBefore}
use Rattle.stan_select.proofs.lookups.has_pattern.Given as goal

abbrev pub invariant-loop-pattern : goal.invariant-loop-pattern
invariant-loop-pattern l = NoPatternBefore l.patterns l.file l.pattern-index
