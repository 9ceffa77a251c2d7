use Rattle.std.proofs.Common.{◌≡◌, ◌-◌, ◌≤◌, drop, length}
use Rattle.stan_neon_scalars.specs.Quotes.{quoted_behind}
use Rattle.stan_neon_scalars.proofs.QuoteLemmas.{behind}
use Rattle.stan_neon_scalars.proofs.quotes.quoted.Given as goal

-- The bytes that are left complete the text.
abbrev pub invariant-loop-at : goal.invariant-loop-at
invariant-loop-at l = record {
  within : l.at ≤ length l.bytes;
  same : quoted_behind l.quote 0 (drop 1 l.bytes) ≡ behind l.text.items (quoted_behind l.quote 0 (drop l.at l.bytes));
}

abbrev pub decreases-loop-at : goal.decreases-loop-at
decreases-loop-at l = length l.bytes - l.at
