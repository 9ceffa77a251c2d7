use Rattle.std.proofs.Common.{◌∙◌, sym, [], ◌∷◌, false}
use Rattle.stan_model_statements.specs.Symbols as sorts
use Rattle.stan_stmt_items.proofs.FormLemmas.{mark_begins}
use Rattle.stan_stmt_items.proofs.forms.OneMarkPart.begins.Goals as goal

pub returns : goal.returns
returns g c = λ other. c.stands.ensures ∙ rw c.mark.ensures (mark_begins c.args.tokens.now other g.F.MarkForm.sort g.F.MarkForm.mark (sorts.Mark g.F.MarkForm.mark ∷ []) c.args.place g.met.F.MarkForm.form)
