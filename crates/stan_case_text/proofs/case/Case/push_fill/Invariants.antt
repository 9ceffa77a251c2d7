use Rattle.std.proofs.Common.{◌≡◌}
use Rattle.stan_case_text.proofs.case.Case.push_fill.Given as goal

abbrev pub invariant-loop : goal.invariant-loop
invariant-loop l = l.self.name ≡ l.initial.self.name
