use Rattle.stan_syntax.proofs.Layers.{tree_fields}
use Rattle.stan_syntax.proofs.tree.Expr.production.Goals as goal

pub returns : goal.returns
returns c = rw tree_fields c.production.ensures
