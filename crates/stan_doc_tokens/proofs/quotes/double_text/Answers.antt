use Rattle.std.proofs.Common.{◌+◌, ◌∙◌, sym, ap, subst}
use Rattle.std.specs.Prelude.{◌==◌, slice_index}
use Rattle.std.proofs.lemmas.Bool.{ne_eqb}
use Rattle.stan_doc_tokens.specs.Quotes.{BeginsNone}
use Rattle.stan_doc_tokens.proofs.SeenLemmas.{double_none}
use Rattle.stan_doc_tokens.proofs.quotes.double_text.Goals as goal

pub returns-else-byte_at-eq34-clause-seen : goal.returns-else-byte_at-eq34-clause-seen
returns-else-byte_at-eq34-clause-seen c =
    let text = c.args.text.now in
    let v = c.fixed_end-to.ensures.value in
    subst (λ z. BeginsNone text 34 (c.args.at + 1) z) (sym v)
    (double_none text c.args.at c.requires.within (ap (λ z. slice_index text z == 34) (sym v) ∙ ap (λ z. z == 34) (sym c.byte_at.ensures.value) ∙ ne_eqb c.byte_at.result 34 c.if-byte_at-eq34.false))
