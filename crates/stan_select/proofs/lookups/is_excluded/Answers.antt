use Rattle.std.proofs.Common.{map, string_bytes, sym, ◌∙◌, inr, ⊎_elim}
use Rattle.std.specs.Prelude.{◌↔◌, IsTrue}
use Rattle.std.proofs.lemmas.Bool.{false≢true}
use Rattle.stan_select.specs.Lookups.{HasPattern}
use Rattle.stan_select.proofs.lookups.is_excluded.Goals as goal

pub returns-else-covers : goal.returns-else-covers
returns-else-covers c =
    let found = c.has_pattern.ensures in
    let pattern : IsTrue c.has_pattern.result ↔ HasPattern (map string_bytes c.args.lookups.now.patterns.items) c.args.file.now = rw c.deref.ensures.value at found in (
      λ t. inr (pattern.0 t),
      λ h. ⊎_elim (λ covered. absurd (false≢true (sym c.if-covers.false ∙ c.covers.ensures.1 covered))) (λ one. pattern.1 one) h,
    )
