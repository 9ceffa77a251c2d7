use Rattle.std.proofs.Common.{◌≡◌, ◌-◌, length}
use Rattle.stan_doc_types.specs.Conditions.{branches}
use Rattle.stan_doc_types.proofs.Parting.{Turns}
use Rattle.stan_doc_types.proofs.conditions.last_parted.Given as goal

abbrev pub invariant-loop-turn : goal.invariant-loop-turn
invariant-loop-turn g l = (l.count ≡ length l.parser.tokens.now) × (Turns l.parser.tokens.now l.levels l.from (l.count - l.turn) ≡ branches l.parser.tokens.now l.levels l.from)
