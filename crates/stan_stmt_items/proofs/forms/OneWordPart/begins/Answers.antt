use Rattle.std.proofs.Common.{◌∙◌, sym, [], ◌∷◌, false}
use Rattle.stan_model_statements.specs.Symbols as sorts
use Rattle.stan_stmt_items.proofs.FormLemmas.{form_begins}
use Rattle.stan_stmt_items.proofs.forms.OneWordPart.begins.Goals as goal

pub returns : goal.returns
returns g c = λ other. c.include.ensures ∙ rw c.kind_at.ensures (sym (form_begins c.args.tokens.now other g.F.WordForm.sort g.F.Words.Words.kinds (sorts.Word g.F.Words.Words.kinds ∷ []) c.args.place g.met.F.WordForm.form))
