use Rattle.stan_expr_rules.specs.Parse.{below}
use Rattle.stan_expr_reader.proofs.MadeLemmas.{assigned_made}
use Rattle.stan_expr_reader.proofs.operands.assigned.Goals as goal

pub returns : goal.returns
returns g c =
    rw (c.in_ok-target.ensures, c.in_ok-new.ensures) (assigned_made c.args.grammar.now.tokens.now (below c.args.grammar.now.tokens.now c.args.grammar.now.depth) c.args.target c.in_ok-value.value c.args.operator c.args.place c.in_ok-value.to c.in_ok-value.ensures)
