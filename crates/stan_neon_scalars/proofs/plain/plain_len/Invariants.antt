use Rattle.std.proofs.Common.{◌≡◌, ◌≤◌, ◌++◌, take, drop}
use Rattle.stan_neon_scalars.specs.Numbers.{front, stripped}
use Rattle.stan_neon_scalars.proofs.plain.plain_len.Given as goal

-- The front goes on, and without the blanks at its end it has so many bytes so far.
abbrev pub invariant-loop-i : goal.invariant-loop-i
invariant-loop-i l = record {
  within : l.end ≤ l.i;
  same : front l.listed 32 l.bytes ≡ take l.i l.bytes ++ front l.listed l.before (drop l.i l.bytes);
  kept : stripped (take l.i l.bytes) ≡ take l.end l.bytes;
}
