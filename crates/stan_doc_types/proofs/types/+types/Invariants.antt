use Rattle.stan_doc_types.proofs.types.+types.Given as goal

abbrev pub decreases-written : goal.decreases-written
decreases-written l = l.levels

abbrev pub decreases-unary : goal.decreases-unary
decreases-unary l = l.levels
