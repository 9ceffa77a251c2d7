use Rattle.std.proofs.Common.{◌∙◌, map, ap, lit<, rules}
use Rattle.std.specs.Prelude.{string_bytes, filter}
use Rattle.std.proofs.lemmas.Iterator.Consumers.{YieldsList-end, YieldsList-at}
use Rattle.std.proofs.lemmas.Iterator.Splits.{YieldsList-from_str_split}
use Rattle.stan_rows.specs.Rows.{is_row}
use Rattle.stan_rows.proofs.RowLemmas.{line-more}
use Rattle.stan_rows.proofs.lines.rows.Goals as goal

pub loop-line-preserved : goal.loop-line-preserved
loop-line-preserved c =
    let rows = line-more (λ (line : _). line.now) c.loop-line.yielded c.in-Some.line (map string_bytes c.loop-line.rows.items) (map string_bytes c.take_line.new.rows.items) c.in_ok-take_line.ensures c.loop-line.invariant.2 in
    search rules

pub returns : goal.returns
returns c =
    let split = YieldsList-from_str_split 10 c.args.text.now (lit< tt) c.split-line-items.ensures.text c.split-line-items.ensures.has_more c.split-line-items.ensures.pattern in
    let end = YieldsList-end (YieldsList-at c.into_iter-line-iterator.ensures.into_iter_gives split) c.loop-line.yielded _ c.loop-line.yielded_by _ _ c.in-None.is c.next.ensures.steps in
    c.loop-line.invariant.2 ∙ ap (filter is_row) end.0
