use Rattle.std.proofs.Common.{◌≡◌, ◌-◌, map}
use Rattle.stan_stmt_parts.specs.Gives.{every}
use Rattle.stan_stmt_parts.proofs.Turns.{Turns}
use Rattle.stan_stmt_parts.proofs.parser.Parser.all.Given as goal

abbrev pub invariant-loop-turn : goal.invariant-loop-turn
invariant-loop-turn g l =
    Turns l.self.tokens.now (g.R.Reader.leaves l.self.reader) l.depth g.T.Part.sort (l._turn-end - l._turn) (map g.T.Part.view l.found) l.place ≡ every l.self.tokens.now (g.R.Reader.leaves l.self.reader) l.depth g.T.Part.sort l.from
