use Rattle.std.proofs.Common.{refl}
use Rattle.stan_syntax.proofs.Layers.{suffix-Call, suffix-Decrement, suffix-Increment, suffix-Index, suffix-Property, suffix-Push, suffix-Scoped}
use Rattle.stan_expr_walk.proofs.names.call_arguments.Goals as goal

pub returns-in-Push : goal.returns-in-Push
returns-in-Push c = rw (c.in-Push.is, suffix-Push) refl

pub returns-in-Index : goal.returns-in-Index
returns-in-Index c = rw (c.in-Index.is, suffix-Index) refl

pub returns-in-Property : goal.returns-in-Property
returns-in-Property c = rw (c.in-Property.is, suffix-Property) refl

pub returns-in-Scoped : goal.returns-in-Scoped
returns-in-Scoped c = rw (c.in-Scoped.is, suffix-Scoped) refl

pub returns-in-Call : goal.returns-in-Call
returns-in-Call c = rw (c.in-Call.is, suffix-Call) refl

pub returns-in-Increment : goal.returns-in-Increment
returns-in-Increment c = rw (c.in-Increment.is, suffix-Increment) refl

pub returns-in-Decrement : goal.returns-in-Decrement
returns-in-Decrement c = rw (c.in-Decrement.is, suffix-Decrement) refl
