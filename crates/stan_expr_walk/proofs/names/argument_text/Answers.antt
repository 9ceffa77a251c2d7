use Rattle.std.proofs.Common.{refl}
use Rattle.stan_syntax.proofs.Layers.{argument-Positional, argument-Spread, argument-Named}
use Rattle.stan_expr_walk.proofs.names.argument_text.Goals as goal

pub returns-in-Positional : goal.returns-in-Positional
returns-in-Positional c = rw (c.in-Positional.is, argument-Positional) c.text.ensures

pub returns-in-Spread : goal.returns-in-Spread
returns-in-Spread c = rw (c.in-Spread.is, argument-Spread) refl

pub returns-in-Named : goal.returns-in-Named
returns-in-Named c = rw (c.in-Named.is, argument-Named) refl
