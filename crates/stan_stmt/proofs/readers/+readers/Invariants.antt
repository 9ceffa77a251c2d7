use Rattle.stan_stmt.proofs.readers.+readers.Given as goal

abbrev pub decreases-value : goal.decreases-value
decreases-value l = l.depth.room

abbrev pub decreases-statement : goal.decreases-statement
decreases-statement l = l.depth.room
