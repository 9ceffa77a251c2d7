use Rattle.std.proofs.Common.{arith, [], ◌∷◌, false}
use Rattle.stan_stmt_parts.specs.Gives.{inside}
use Rattle.stan_stmt_items.proofs.FormLemmas.{marked_part}
use Rattle.stan_stmt_items.proofs.forms.OneMarkPart.read.Goals as goal

pub returns-in_err-_depth : goal.returns-in_err-_depth
unfolding inside
returns-in_err-_depth g c = grind (arith, marked_part c.args.parser.now.tokens.now (g.R.Reader.leaves c.args.parser.now.reader) c.args.depth g.F.MarkForm.sort g.F.MarkForm.mark ([]) c.args.place g.met.F.MarkForm.form)

pub returns-in_err-to : goal.returns-in_err-to
unfolding inside
returns-in_err-to g c = grind (arith, marked_part c.args.parser.now.tokens.now (g.R.Reader.leaves c.args.parser.now.reader) c.args.depth g.F.MarkForm.sort g.F.MarkForm.mark ([]) c.args.place g.met.F.MarkForm.form)

pub returns : goal.returns
unfolding inside
returns g c = grind (arith, marked_part c.args.parser.now.tokens.now (g.R.Reader.leaves c.args.parser.now.reader) c.args.depth g.F.MarkForm.sort g.F.MarkForm.mark ([]) c.args.place g.met.F.MarkForm.form)
