use Rattle.std.proofs.Common.{refl}
use Rattle.bstr.proofs.lemmas.LossyLemmas.{lossy_chars-utf8_lossy}
use Rattle.stan_type_text.proofs.scalars.put_shown.Goals as goal

pub returns : goal.returns
returns c = rw (← lossy_chars-utf8_lossy c.args.bytes.now) (c.in_ok-to_str_lossy_into.ensures.ok refl)
