use Rattle.stan_expr_rules.specs.Parse.{below}
use Rattle.stan_expr_reader.proofs.MadeLemmas.{atom_made}
use Rattle.stan_expr_reader.proofs.operands.atom.Goals as goal

pub returns : goal.returns
returns g c = atom_made c.args.grammar.now.tokens.now (below c.args.grammar.now.tokens.now c.args.grammar.now.depth) c.args.first c.in_ok-form.form c.args.place c.in_ok-form.to c.in_ok-form.ensures
