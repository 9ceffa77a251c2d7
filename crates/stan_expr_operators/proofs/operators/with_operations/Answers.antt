use Rattle.std.proofs.Common.{ap, Some}
use Rattle.stan_model_grammar.specs.Trees.{Tree}
use Rattle.stan_expr_operators.proofs.MadeLemmas.{operations_made}
use Rattle.stan_expr_operators.proofs.operators.with_operations.Goals as goal

pub returns : goal.returns
returns c = rw c.in_ok-new.ensures (ap (λ (t : Tree). Some t) (operations_made c.is_empty.result c.args.e c.args.operations c.is_empty.ensures c.if-is_empty.false))
