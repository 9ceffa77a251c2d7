use Rattle.std.proofs.Common.{None, Some, inl, inr, refl}
use Rattle.std.proofs.lemmas.Str.Pattern.{split_text_parts}
use Rattle.stan_rows.specs.Signs.{parts_sign}
use Rattle.stan_rows.proofs.signs.parts.Goals as goal

pub returns-in-Some : goal.returns-in-Some
returns-in-Some c =
    let split = split_text_parts parts_sign c.args.text.now (Some (c.in-Some.first, c.in-Some.second)) c.in-Some.ensures.cases in
    inl (c.in-Some.first.now, c.in-Some.second.now, split, c.trim.ensures.trim, c.trim-in-Some.ensures.trim)

pub returns-in-None : goal.returns-in-None
returns-in-None c =
    let none = split_text_parts parts_sign c.args.text.now None c.in-None.ensures.cases in
    inr (none, c.trim-in-None.ensures.trim, refl)
