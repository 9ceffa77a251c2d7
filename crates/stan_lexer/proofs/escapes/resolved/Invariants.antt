use Rattle.std.proofs.Common.{◌≡◌, ◌-◌, ◌≤◌, ◌++◌, drop, length}
use Rattle.stan_model_grammar.specs.Values.{resolved}
use Rattle.stan_lexer.proofs.escapes.resolved.Given as goal

-- The bytes that are left complete the text.
abbrev pub invariant-loop-at : goal.invariant-loop-at
invariant-loop-at l = record {
  within : l.at ≤ length l.bytes;
  same : l.out.items ++ resolved l.quoted 0 (drop l.at l.bytes) ≡ resolved l.quoted 0 l.bytes;
}

abbrev pub decreases-loop-at : goal.decreases-loop-at
decreases-loop-at l = length l.bytes - l.at
