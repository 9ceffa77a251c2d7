use Rattle.std.proofs.Common.{refl, sym, ◌∙◌, arith}
use Rattle.stan_select.proofs.NameLemmas.{folder_at, whole_folder, has_from_HasFolder}
use Rattle.stan_select.proofs.names.has_folder.Goals as goal

pub returns-then-contains : goal.returns-then-contains
returns-then-contains c = (
  λ t. folder_at c.args.names.now c.args.file.now c.loop-at.at (omega arith) c.if-byte-eq-SEPARATOR.true (sym c.contains.ensures ∙ c.if-contains.true),
  λ h. refl,
)

pub returns : goal.returns
returns c = (
  λ t. whole_folder c.args.names.now c.args.file.now (sym c.contains-2.ensures ∙ t),
  λ h. c.contains-2.ensures ∙ has_from_HasFolder c.args.names.now c.args.file.now (λ at lt slash there. c.loop-at.invariant at (omega arith) slash there) h,
)
