use Rattle.std.proofs.Common.{◌≡◌, ◌+◌, drop}
use Rattle.std.specs.List.{prefix_len}
use Rattle.stan_model_neon.specs.Characters.{is_in_key}
use Rattle.stan_neon_scalars.proofs.bytes.in_key.Given as goal

-- All bytes so far pass.
abbrev pub invariant-loop-i : goal.invariant-loop-i
invariant-loop-i l = prefix_len is_in_key l.bytes ≡ l.i + prefix_len is_in_key (drop l.i l.bytes)
