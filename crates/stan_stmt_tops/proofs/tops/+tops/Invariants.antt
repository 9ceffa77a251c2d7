use Rattle.std.proofs.Common.{◌≡◌, ◌+◌, ◌-◌, ◌*◌, map}
use Rattle.stan_model_statements.specs.Symbols.{Top}
use Rattle.stan_stmt_parts.proofs.Turns.{Turns}
use Rattle.stan_stmt_parts.specs.Gives.{every}
use Rattle.stan_stmt_tops.specs.Views.{top_piece}
use Rattle.stan_stmt_tops.proofs.tops.+tops.Given as goal

abbrev pub decreases-all_tops : goal.decreases-all_tops
decreases-all_tops g l = 3 * l.depth.room + 2

abbrev pub decreases-read_top : goal.decreases-read_top
decreases-read_top g l = 3 * l.depth.room + 1

abbrev pub decreases-namespace_block : goal.decreases-namespace_block
decreases-namespace_block g l = 3 * l.depth.room

abbrev pub decreases-tops_in_braces : goal.decreases-tops_in_braces
decreases-tops_in_braces g l = 3 * l.depth.room + 2

abbrev pub invariant-all_tops-loop-turn : goal.invariant-all_tops-loop-turn
invariant-all_tops-loop-turn g l =
    Turns l.parser.tokens.now (g.R.Reader.leaves l.parser.reader) l.depth Top (l._turn-end - l._turn) (map top_piece l.found) l.place ≡ every l.parser.tokens.now (g.R.Reader.leaves l.parser.reader) l.depth Top l.from
