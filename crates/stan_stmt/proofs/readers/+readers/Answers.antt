use Rattle.std.proofs.Common.{sym, subst}
use Rattle.stan_places.specs.Gives.{Gives, at}
use Rattle.stan_stmt_parts.specs.Gives.{putting}
use Rattle.stan_stmt_bodies.proofs.Unrolled.{value_is}
use Rattle.stan_model_readings.specs.Fronts.{is_strict_types}
use Rattle.stan_stmt.proofs.readers.+readers.Goals as goal

pub value-returns : goal.value-returns
value-returns t c = subst (Gives (at putting) c.value.result) (sym (value_is c.args.tokens.now (is_strict_types c.args.source.now) c.args.depth.room c.args.depth.levels c.args.pattern c.args.place)) c.value.ensures
