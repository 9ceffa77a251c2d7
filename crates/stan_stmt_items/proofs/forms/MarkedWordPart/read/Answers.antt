use Rattle.std.proofs.Common.{arith, [], ◌∷◌, false}
use Rattle.stan_model_statements.specs.Symbols as sorts
use Rattle.stan_stmt_parts.specs.Gives.{inside}
use Rattle.stan_stmt_items.proofs.FormLemmas.{marked_part}
use Rattle.stan_stmt_items.proofs.forms.MarkedWordPart.read.Goals as goal

pub returns-in_err-_depth : goal.returns-in_err-_depth
unfolding inside
returns-in_err-_depth g c = grind (arith, marked_part c.args.parser.now.tokens.now (g.R.Reader.leaves c.args.parser.now.reader) c.args.depth g.F.MarkedWordForm.sort g.F.MarkedWordForm.mark (sorts.Word g.F.Words.Words.kinds ∷ []) c.args.place g.met.F.MarkedWordForm.form)

pub returns-in_err-to : goal.returns-in_err-to
unfolding inside
returns-in_err-to g c = grind (arith, marked_part c.args.parser.now.tokens.now (g.R.Reader.leaves c.args.parser.now.reader) c.args.depth g.F.MarkedWordForm.sort g.F.MarkedWordForm.mark (sorts.Word g.F.Words.Words.kinds ∷ []) c.args.place g.met.F.MarkedWordForm.form)

pub returns-in_err-token : goal.returns-in_err-token
unfolding inside
returns-in_err-token g c = grind (arith, marked_part c.args.parser.now.tokens.now (g.R.Reader.leaves c.args.parser.now.reader) c.args.depth g.F.MarkedWordForm.sort g.F.MarkedWordForm.mark (sorts.Word g.F.Words.Words.kinds ∷ []) c.args.place g.met.F.MarkedWordForm.form)

pub returns : goal.returns
unfolding inside
returns g c = grind (arith, marked_part c.args.parser.now.tokens.now (g.R.Reader.leaves c.args.parser.now.reader) c.args.depth g.F.MarkedWordForm.sort g.F.MarkedWordForm.mark (sorts.Word g.F.Words.Words.kinds ∷ []) c.args.place g.met.F.MarkedWordForm.form)
