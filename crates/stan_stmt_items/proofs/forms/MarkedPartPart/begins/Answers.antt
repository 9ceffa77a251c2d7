use Rattle.std.proofs.Common.{◌∙◌, sym, [], ◌∷◌, false}
use Rattle.stan_model_statements.specs.Symbols as sorts
use Rattle.stan_stmt_items.proofs.FormLemmas.{mark_begins}
use Rattle.stan_stmt_items.proofs.forms.MarkedPartPart.begins.Goals as goal

pub returns : goal.returns
returns g c = λ other. c.stands.ensures ∙ rw c.mark.ensures (mark_begins c.args.tokens.now other g.F.MarkedPartForm.sort g.F.MarkedPartForm.mark (sorts.Mark g.F.MarkedPartForm.mark ∷ sorts.Part sorts.One g.F.Inner.Part.sort ∷ []) c.args.place g.met.F.MarkedPartForm.form)
