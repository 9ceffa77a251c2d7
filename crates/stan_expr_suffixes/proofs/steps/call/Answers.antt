use Rattle.std.proofs.Common.{refl}
use Rattle.stan_expr_rules.specs.Parse.{call}
use Rattle.stan_syntax.proofs.Layers.{suffix-Call, arguments-made}
use Rattle.stan_expr_suffixes.proofs.steps.call.Goals as goal

pub returns : goal.returns
unfolding call
returns g c = rw (c.in_ok-list.ensures, suffix-Call, arguments-made) refl
