use Rattle.stan_syntax.proofs.Layers.{arguments_fields}
use Rattle.stan_expr_walk.proofs.names.first_text.Goals as goal

pub returns : goal.returns
returns c = rw arguments_fields ((rw c.as_slice.ensures at c.first_listed_text.ensures) c.args.arguments.now.comma)
