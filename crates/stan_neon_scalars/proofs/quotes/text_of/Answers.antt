use Rattle.std.proofs.Common.{◌∙◌, ap, refl}
use Rattle.std.specs.Prelude.{Some}
use Rattle.std.proofs.lemmas.Str.{is_utf8-from_IsUtf8}
use Rattle.stan_neon_scalars.proofs.Utf8Lemmas.{is_utf8-not}
use Rattle.stan_neon_scalars.proofs.quotes.text_of.Goals as goal

pub returns-in_ok-text-in-Ok : goal.returns-in_ok-text-in-Ok
returns-in_ok-text-in-Ok c =
    rw (is_utf8-from_IsUtf8 _ c.in-Ok.ensures.cases.1) (ap (λ t. Some t) (c.new.ensures ∙ c.in_ok-text-in-Ok.ensures.ok ∙ c.in-Ok.ensures.cases.0))

pub returns-in-Err : goal.returns-in-Err
returns-in-Err c = rw (is_utf8-not _ c.in-Err.ensures.cases.0) refl
