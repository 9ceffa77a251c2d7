use Rattle.std.proofs.Common.{ap}
use Rattle.stan_neon_lines.specs.Lines.{contents}
use Rattle.stan_neon_lines.proofs.PieceLemmas.{lines-all}
use Rattle.stan_neon_lines.proofs.lines.Feed.new.Goals as goal

pub returns : goal.returns
returns c = ap (contents 1) (lines-all c.args.text.now)
