-- From which level on a rule comes.
use Rattle.std.specs.Prelude.{ℕ, ◌≤◌, nat_le, Bool}
use Rattle.stan_model_verdict.specs.Fault.{Fault}

abbrev pub level_of : ℕ → ℕ
level_of rule = 0

abbrev pub is_within : ℕ → Fault → Bool
is_within level fault = nat_le (level_of fault.rule) level
