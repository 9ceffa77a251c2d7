use Rattle.stan_expr_rules.proofs.InsideLemmas.{tree_inside}
use Rattle.stan_expr_law.proofs.laws.trees_stand_in_the_tokens.Goals as goal

pub returns : goal.returns
returns c = tree_inside
