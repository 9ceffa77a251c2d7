use Rattle.std.proofs.Common.{◌≡◌, drop}
use Rattle.stan_stmt_values.specs.Held.{shapes_of}
use Rattle.stan_stmt_values.proofs.BodyLemmas.{among, onwards}
use Rattle.stan_stmt_values.proofs.bodies.read_bodies.Given as goal

abbrev pub invariant-loop-site : goal.invariant-loop-site
invariant-loop-site g l =
    onwards l.parser.tokens.now (g.R.Reader.leaves l.parser.reader) l.depth.room l.depth.levels (shapes_of l.found) (drop l.site-index l.sites) ≡ among l.parser.tokens.now (g.R.Reader.leaves l.parser.reader) l.depth.room l.depth.levels l.sites
