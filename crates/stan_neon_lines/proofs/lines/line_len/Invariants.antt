use Rattle.std.proofs.Common.{◌≡◌, ◌+◌, drop}
use Rattle.std.specs.Prelude.{◌==◌, not}
use Rattle.std.specs.List.{prefix_len}
use Rattle.stan_neon_lines.proofs.lines.line_len.Given as goal

-- None so far is a line feed.
abbrev pub invariant-loop-i : goal.invariant-loop-i
invariant-loop-i l = prefix_len (λ b. not (b == 10)) l.bytes ≡ l.i + prefix_len (λ b. not (b == 10)) (drop l.i l.bytes)
