use Rattle.std.proofs.Common.{arith}
use Rattle.stan_syntax.specs.Tree.{tree_of}
use Rattle.stan_expr_operators.proofs.StrataLemmas.{stratum_past}
use Rattle.stan_expr_operators.proofs.operators.at_stratum.Goals as goal

pub returns-else-place-grammar : goal.returns-else-place-grammar
returns-else-place-grammar g c = stratum_past c.args.grammar.now.tokens.now c.args.grammar.now.depth c.args.stratum (tree_of c.args.e) c.args.place (omega arith) (omega arith)
