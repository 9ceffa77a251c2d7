use Rattle.std.proofs.Common.{◌≡◌, ◌<◌, ℕ, true, take, get_or}
use Rattle.stan_select.specs.Names.{has}
use Rattle.stan_select.proofs.names.has_folder.Given as goal

-- no folder so far is a name
abbrev pub invariant-loop-at : goal.invariant-loop-at
invariant-loop-at l = (at : ℕ) → at < l.at → get_or l.file at 0 ≡ 47 → has l.names (take at l.file) ≡ true → ⊥
