use Rattle.std.proofs.Common.{◌≡◌, take}
use Rattle.std.specs.Prelude.{map}
use Rattle.stan_config.proofs.walk.longer.Given as goal

-- The files so far.
abbrev pub invariant-loop-other : goal.invariant-loop-other
invariant-loop-other l = map (λ other. other.now) l.longer.items ≡ map (λ other. other.now) (take l.other-index l.chain)
