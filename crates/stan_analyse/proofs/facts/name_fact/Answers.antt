use Rattle.std.proofs.Common.{arith}
use Rattle.stan_analyse.proofs.FeedLemmas.{few_feeds}
use Rattle.stan_analyse.proofs.facts.name_fact.Goals as goal

pub line_at-line-requires : goal.line_at-line-requires
line_at-line-requires c = record { few = omega (arith, c.requires.small, few_feeds c.args.source.now c.args.feeds.now c.requires.feeds) }
