use Rattle.std.proofs.Common.{◌≡◌, ◌-◌, ◌<◌, ◌≤◌, length}
use Rattle.stan_model_grammar.specs.Runs.{run_end}
use Rattle.stan_lexer.proofs.HeredocLemmas.{BeginsLine, passed}
use Rattle.stan_lexer.proofs.heredocs.body_end.Given as goal

-- No line up to here closes the body.
abbrev pub invariant-loop-at : goal.invariant-loop-at
invariant-loop-at l = record {
  rises : l.body ≤ l.at;
  within : l.at ≤ length l.source;
  begins : l.at < length l.source → BeginsLine l.source l.label l.body l.at;
  same : run_end l.source (passed l.source l.label l.body) l.at ≡ run_end l.source (passed l.source l.label l.body) l.body;
}

abbrev pub decreases-loop-at : goal.decreases-loop-at
decreases-loop-at l = length l.source - l.at
