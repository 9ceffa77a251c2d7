use Rattle.std.proofs.Common.{arith, [], ◌∷◌, false}
use Rattle.stan_model_statements.specs.Symbols as sorts
use Rattle.stan_stmt_parts.specs.Gives.{inside}
use Rattle.stan_stmt_items.proofs.FormLemmas.{marked_part}
use Rattle.stan_stmt_items.proofs.forms.MarkedValuePart.read.Goals as goal

pub returns-in_err-depth : goal.returns-in_err-depth
unfolding inside
returns-in_err-depth g c = grind (arith, marked_part c.args.parser.now.tokens.now (g.R.Reader.leaves c.args.parser.now.reader) c.args.depth g.F.MarkedValueForm.sort g.F.MarkedValueForm.mark (sorts.Expression false ∷ []) c.args.place g.met.F.MarkedValueForm.form)

pub returns-in_err-to : goal.returns-in_err-to
unfolding inside
returns-in_err-to g c = grind (arith, marked_part c.args.parser.now.tokens.now (g.R.Reader.leaves c.args.parser.now.reader) c.args.depth g.F.MarkedValueForm.sort g.F.MarkedValueForm.mark (sorts.Expression false ∷ []) c.args.place g.met.F.MarkedValueForm.form)

pub returns-in_err-value : goal.returns-in_err-value
unfolding inside
returns-in_err-value g c = grind (arith, marked_part c.args.parser.now.tokens.now (g.R.Reader.leaves c.args.parser.now.reader) c.args.depth g.F.MarkedValueForm.sort g.F.MarkedValueForm.mark (sorts.Expression false ∷ []) c.args.place g.met.F.MarkedValueForm.form)

pub returns : goal.returns
unfolding inside
returns g c = grind (arith, marked_part c.args.parser.now.tokens.now (g.R.Reader.leaves c.args.parser.now.reader) c.args.depth g.F.MarkedValueForm.sort g.F.MarkedValueForm.mark (sorts.Expression false ∷ []) c.args.place g.met.F.MarkedValueForm.form)
