use Rattle.std.proofs.Common.{◌≡◌, ◌+◌, ◌-◌, length}
use Rattle.stan_neon_lines.specs.Rest.{contents_left}
use Rattle.stan_neon_lines.proofs.lines.Feed.next.Given as goal

-- The lines so far mean nothing.
abbrev pub invariant-lines : goal.invariant-lines
invariant-lines l = contents_left l.initial.self ≡ contents_left l.self

abbrev pub decreases-lines : goal.decreases-lines
decreases-lines l = length l.self.text.now + 1 - l.self.at
