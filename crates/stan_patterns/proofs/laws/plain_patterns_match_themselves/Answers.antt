use Rattle.stan_patterns.proofs.PatternLemmas.{Matches-piece}
use Rattle.stan_patterns.proofs.laws.plain_patterns_match_themselves.Goals as goal

pub returns : goal.returns
returns c = Matches-piece
