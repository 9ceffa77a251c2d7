use Rattle.std.proofs.Common.{◌≡◌, ◌+◌, ◌-◌, [], length, map}
use Rattle.stan_doc_parts.specs.Gives.{gather}
use Rattle.stan_doc_parts.proofs.parser.Parser.all.Given as goal

abbrev pub invariant-loop-turn : goal.invariant-loop-turn
invariant-loop-turn g l =
    gather l.self.tokens.now l.levels (l._turn-end - l._turn) g.T.Part.sort (map g.T.Part.view l.found) l.place ≡ gather l.self.tokens.now l.levels (length l.self.tokens.now + 1) g.T.Part.sort [] l.from
