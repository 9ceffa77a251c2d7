use Rattle.stan_stmt_tops.proofs.FirstLemmas.{plain_read}
use Rattle.stan_stmt_tops.proofs.plain.top_statement.Goals as goal

pub returns : goal.returns
returns g c = plain_read c.args.parser.now.tokens.now (g.R.Reader.leaves c.args.parser.now.reader) c.args.depth c.in_ok-depth.depth c.args.place c.in_ok-statement.statement c.in_ok-statement.to c.in_ok-depth.ensures.depth c.in_ok-statement.ensures
