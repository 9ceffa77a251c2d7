use Rattle.std.proofs.Common.{arith, [], ◌∷◌, false}
use Rattle.stan_model_statements.specs.Symbols as sorts
use Rattle.stan_stmt_parts.specs.Gives.{inside}
use Rattle.stan_stmt_items.proofs.FormLemmas.{marked_part}
use Rattle.stan_stmt_items.proofs.forms.MarkedPartPart.read.Goals as goal

pub returns-in_err-depth : goal.returns-in_err-depth
unfolding inside
returns-in_err-depth g c = grind (arith, marked_part c.args.parser.now.tokens.now (g.R.Reader.leaves c.args.parser.now.reader) c.args.depth g.F.MarkedPartForm.sort g.F.MarkedPartForm.mark (sorts.Part sorts.One g.F.Inner.Part.sort ∷ []) c.args.place g.met.F.MarkedPartForm.form)

pub returns-in_err-to : goal.returns-in_err-to
unfolding inside
returns-in_err-to g c = grind (arith, marked_part c.args.parser.now.tokens.now (g.R.Reader.leaves c.args.parser.now.reader) c.args.depth g.F.MarkedPartForm.sort g.F.MarkedPartForm.mark (sorts.Part sorts.One g.F.Inner.Part.sort ∷ []) c.args.place g.met.F.MarkedPartForm.form)

pub returns-in_err-part : goal.returns-in_err-part
unfolding inside
returns-in_err-part g c = grind (arith, marked_part c.args.parser.now.tokens.now (g.R.Reader.leaves c.args.parser.now.reader) c.args.depth g.F.MarkedPartForm.sort g.F.MarkedPartForm.mark (sorts.Part sorts.One g.F.Inner.Part.sort ∷ []) c.args.place g.met.F.MarkedPartForm.form)

pub returns : goal.returns
unfolding inside
returns g c = grind (arith, marked_part c.args.parser.now.tokens.now (g.R.Reader.leaves c.args.parser.now.reader) c.args.depth g.F.MarkedPartForm.sort g.F.MarkedPartForm.mark (sorts.Part sorts.One g.F.Inner.Part.sort ∷ []) c.args.place g.met.F.MarkedPartForm.form)
