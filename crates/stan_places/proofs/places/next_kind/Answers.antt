use Rattle.std.proofs.Common.{arith, refl, ◌+◌}
use Rattle.std.proofs.lemmas.Option.{slice_get_past}
use Rattle.stan_model_grammar.specs.Strata.{kind_at}
use Rattle.stan_places.proofs.places.next_kind.Goals as goal

pub returns-else-at-tokens : goal.returns-else-at-tokens
unfolding kind_at
returns-else-at-tokens c = rw (slice_get_past c.args.tokens.now (c.args.at + 1) (omega arith)) refl
