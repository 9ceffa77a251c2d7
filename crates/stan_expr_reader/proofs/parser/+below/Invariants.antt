use Rattle.stan_expr_reader.proofs.parser.+below.Given as goal

abbrev pub decreases-below : goal.decreases-below
decreases-below l = l.depth
