use Rattle.std.proofs.Common.{◌≡◌, drop}
use Rattle.stan_names.proofs.UseLemmas.{onwards}
use Rattle.stan_names.proofs.names.aliased.Given as goal

abbrev pub invariant-loop-it : goal.invariant-loop-it
invariant-loop-it l = onwards l.kind l.alias l.uses (drop l.it-index l.uses) ≡ onwards l.kind l.alias l.uses l.uses
