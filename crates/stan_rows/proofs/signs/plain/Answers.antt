use Rattle.std.proofs.Common.{◌∙◌, rules}
use Rattle.std.proofs.lemmas.Iterator.{YieldsList-from_chars}
use Rattle.std.proofs.lemmas.Iterator.Consumers.{YieldsList-end, YieldsList-at}
use Rattle.stan_rows.proofs.SignLemmas.{plain-more, plain-all}
use Rattle.stan_rows.proofs.signs.plain.Goals as goal

pub loop-character-preserved : goal.loop-character-preserved
loop-character-preserved c =
    let more = plain-more _ _ c.loop-character.yielded c.in-Some.character c.meant.result c.in_ok-push.ensures.bytes c.meant.ensures c.loop-character.invariant.2 in
    search rules

pub returns : goal.returns
returns c =
    let read = YieldsList-from_chars c.args.text.now c.utf8.text c.chars-character-items.ensures.rest in
    let end = YieldsList-end (YieldsList-at c.into_iter-character-iterator.ensures.into_iter_gives read) c.loop-character.yielded _ c.loop-character.yielded_by _ _ c.in-None.is c.next.ensures.steps in
    c.loop-character.invariant.2 ∙ plain-all c.loop-character.yielded c.args.text.now end.0
