use Rattle.std.proofs.Common.{sym, ◌∙◌, ap}
use Rattle.std.specs.Option.{option_copied}
use Rattle.stan_syntax.specs.Tree.{suffix_of}
use Rattle.stan_syntax.proofs.TargetLemmas.{last_place}
use Rattle.stan_syntax.proofs.targets.ends_in_place.Goals as goal

pub returns-in-Some : goal.returns-in-Some
returns-in-Some c = c.is_place.ensures ∙ last_place suffix_of c.args.suffixes.now c.in-Some.last.now (sym c.last.ensures.value ∙ ap option_copied c.in-Some.is)
