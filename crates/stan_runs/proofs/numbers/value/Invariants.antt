use Rattle.std.proofs.Common.{◌≡◌, ◌≤◌, drop}
use Rattle.std.specs.List.{fold}
use Rattle.stan_model_grammar.specs.Runs.{with_digit}
use Rattle.stan_runs.proofs.numbers.value.Given as goal

-- The digits that are left complete the value.
abbrev pub invariant-loop-digit : goal.invariant-loop-digit
invariant-loop-digit l = record {
  small : l.value ≤ 9223372036854775807;
  same : fold (with_digit l.base) l.value (drop l.digit-index l.digits) ≡ fold (with_digit l.base) 0 l.digits;
}
