use Rattle.std.proofs.Common.{[], sym}
use Rattle.std.proofs.lemmas.List.{append-nil}
use Rattle.stan_patterns.proofs.PatternLemmas.{Matches-star, nothing_matches}
use Rattle.stan_patterns.proofs.laws.a_star_matches_all.Goals as goal

pub returns : goal.returns
returns c = λ text. (Matches-star [] text).1 (record { any = text; rest = []; splits = sym (append-nil text); holds = nothing_matches })
