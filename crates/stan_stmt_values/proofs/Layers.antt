-- The layers of what is read, under names that attributes can give.
use Rattle.stan_stmt_trees.proofs.Layers.{body-made}

pub ruleset made = (body-made)
