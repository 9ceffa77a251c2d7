use Rattle.std.proofs.Common.{◌≡◌, ◌++◌, length, drop}
use Rattle.stan_doc_lines.specs.Spans.{closed_tags}
use Rattle.stan_doc_lines.proofs.spans.closed_tags.Given as goal

abbrev pub invariant-loop-index : goal.invariant-loop-index
invariant-loop-index l = l.spans.items ++ closed_tags (length l.text) (drop l.index l.tags.items) ≡ closed_tags (length l.text) l.tags.items
