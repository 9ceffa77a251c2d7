use Rattle.std.proofs.Common.{◌≡◌, ◌-◌, ◌≤◌, length, max}
use Rattle.stan_model_grammar.specs.Runs.{run_end}
use Rattle.stan_runs.proofs.runs.run_end.Given as goal

-- From here on the run ends where it ends from its beginning on.
abbrev pub invariant-loop-to : goal.invariant-loop-to
invariant-loop-to g l = record {
  rises : l.from ≤ l.to;
  within : l.to ≤ max l.from (length l.source);
  same : run_end l.source (g.P.Places.holds l.places l.source) l.to ≡ run_end l.source (g.P.Places.holds l.places l.source) l.from;
}

abbrev pub decreases-loop-to : goal.decreases-loop-to
decreases-loop-to g l = length l.source - l.to
