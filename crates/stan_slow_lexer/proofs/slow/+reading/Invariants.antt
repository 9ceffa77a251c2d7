use Rattle.stan_slow_lexer.proofs.slow.+reading.Given as goal

abbrev pub decreases-read_text : goal.decreases-read_text
decreases-read_text l = l.left

abbrev pub decreases-read_attribute : goal.decreases-read_attribute
decreases-read_attribute l = l.left

abbrev pub decreases-read_inside : goal.decreases-read_inside
decreases-read_inside l = l.left

abbrev pub decreases-read_one : goal.decreases-read_one
decreases-read_one l = l.left
