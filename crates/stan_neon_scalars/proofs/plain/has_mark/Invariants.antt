use Rattle.std.proofs.Common.{◌≡◌, drop}
use Rattle.stan_neon_scalars.specs.Numbers.{has_mark}
use Rattle.stan_neon_scalars.proofs.plain.has_mark.Given as goal

abbrev pub invariant-loop-byte : goal.invariant-loop-byte
invariant-loop-byte l = has_mark 0 l.text ≡ has_mark l.before (drop l.byte-index l.text)
