use Rattle.std.proofs.Common.{sym, ◌∙◌, ap}
use Rattle.std.specs.Option.{option_copied}
use Rattle.stan_syntax.specs.Tree.{argument_of}
use Rattle.stan_syntax.proofs.ExitLemmas.{plain_alone, plain_among}
use Rattle.stan_syntax.proofs.exit.is_plain.Goals as goal

pub returns-then-list-eq1 : goal.returns-then-list-eq1
returns-then-list-eq1 c = c.is_plain_item.ensures ∙ sym (plain_alone argument_of c.args.list.now c.in-Some.argument.now c.args.comma c.if-list-eq1.true (sym c.first.ensures.value ∙ ap option_copied c.in-Some.is))

pub returns-else-list-eq1 : goal.returns-else-list-eq1
returns-else-list-eq1 c = sym (plain_among argument_of c.args.list.now c.in-Some.argument.now c.args.comma c.if-list-eq1.false (sym c.first.ensures.value ∙ ap option_copied c.in-Some.is))
