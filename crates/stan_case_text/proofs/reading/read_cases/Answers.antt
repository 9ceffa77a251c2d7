use Rattle.std.proofs.Common.{◌∙◌, map, ap, lit<, rules}
use Rattle.std.proofs.lemmas.Iterator.Consumers.{YieldsList-end, YieldsList-from_enumerate, YieldsList-at}
use Rattle.std.proofs.lemmas.Iterator.Splits.{YieldsList-from_str_split}
use Rattle.stan_case_text.specs.Cases.{lines_of, name_of, names_begun}
use Rattle.stan_case_text.proofs.CaseLemmas.{line-more, lines-read}
use Rattle.stan_case_text.proofs.reading.read_cases.Goals as goal

pub loop-place-preserved : goal.loop-place-preserved
loop-place-preserved c =
    let names = line-more (λ (item : _ × _). item.1.now) c.loop-place.yielded (c.in-Some.place, c.in-Some.line) (map name_of c.loop-place.cases.items) (map name_of c.take_line.new.cases.items) c.in_default.ensures c.loop-place.invariant.2 in
    search rules

pub returns : goal.returns
returns c =
    let split = YieldsList-from_str_split 10 c.args.text.now (lit< tt) c.split.ensures.text c.split.ensures.has_more c.split.ensures.pattern in
    let road = YieldsList-from_enumerate (YieldsList-at c.enumerate-place-items.ensures.source split) c.enumerate-place-items.ensures.count in
    let end = YieldsList-end (YieldsList-at c.into_iter-place-iterator.ensures.into_iter_gives road) c.loop-place.yielded _ c.loop-place.yielded_by _ _ c.in-None.is c.next.ensures.steps in
    record { names = c.loop-place.invariant.2 ∙ ap names_begun (lines-read (λ line. line.now) c.loop-place.yielded (lines_of c.args.text.now) end.0) }
