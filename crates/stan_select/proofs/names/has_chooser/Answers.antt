use Rattle.std.proofs.Common.{sym, ◌∙◌, ⊎_elim}
use Rattle.std.proofs.lemmas.Bool.{false≢true}
use Rattle.stan_select.proofs.NameLemmas.{php_is, chooser_named, chooser_within, chooser_cases}
use Rattle.stan_select.proofs.names.has_chooser.Goals as goal

pub returns-then-contains : goal.returns-then-contains
returns-then-contains c = (
  λ t. chooser_named c.args.names.now c.args.file.now (sym c.contains.ensures ∙ t),
  λ h. c.if-contains.true,
)

pub returns-then-ends_with : goal.returns-then-ends_with
returns-then-ends_with c =
    let names = c.args.names.now in
    let file = c.args.file.now in
    let php = php_is file c.ends_with.result c.ends_with.ensures.value in (
      λ t. chooser_within names file (php.0 c.if-ends_with.true) (c.has_folder.ensures.0 t),
      λ h.
          ⊎_elim
          (λ named. absurd (false≢true (sym c.if-contains.false ∙ c.contains.ensures ∙ named)))
          (λ both. c.has_folder.ensures.1 both.1)
          (chooser_cases names file h),
    )

pub returns-else-ends_with : goal.returns-else-ends_with
returns-else-ends_with c =
    let names = c.args.names.now in
    let file = c.args.file.now in
    let php = php_is file c.ends_with.result c.ends_with.ensures.value in (
      λ t. absurd (false≢true (sym c.if-ends_with.false ∙ t)),
      λ h.
          ⊎_elim
          (λ named. absurd (false≢true (sym c.if-contains.false ∙ c.contains.ensures ∙ named)))
          (λ both. php.1 both.0)
          (chooser_cases names file h),
    )
