use Rattle.std.proofs.Common.{◌≡◌, ◌-◌, ◌≤◌, length, max}
use Rattle.stan_model_grammar.specs.Runs.{run_end}
use Rattle.stan_model_grammar.specs.Texts.{is_escaped}
use Rattle.stan_runs.specs.FixedBytes.{fixed_from}
use Rattle.stan_runs.proofs.fixed.fixed_end.Given as goal

-- From here on the fixed bytes end where they end from their beginning on.
abbrev pub invariant-loop-to : goal.invariant-loop-to
invariant-loop-to l = record {
  rises : l.from ≤ l.to;
  within : l.to ≤ max l.from (length l.source);
  escaped : l.escaped ≡ is_escaped l.source l.from (l.to - l.from);
  same : run_end l.source (fixed_from l.quote l.source l.from) l.to ≡ run_end l.source (fixed_from l.quote l.source l.from) l.from;
}

abbrev pub decreases-loop-to : goal.decreases-loop-to
decreases-loop-to l = length l.source - l.to
