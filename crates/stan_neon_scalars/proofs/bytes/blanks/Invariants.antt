use Rattle.std.proofs.Common.{◌≡◌, ◌+◌, drop}
use Rattle.std.specs.List.{prefix_len}
use Rattle.stan_model_neon.specs.Characters.{is_blank}
use Rattle.stan_neon_scalars.proofs.bytes.blanks.Given as goal

-- All bytes so far pass.
abbrev pub invariant-loop-i : goal.invariant-loop-i
invariant-loop-i l = prefix_len is_blank l.bytes ≡ l.i + prefix_len is_blank (drop l.i l.bytes)
