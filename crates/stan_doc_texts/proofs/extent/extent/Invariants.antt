use Rattle.std.proofs.Common.{◌≡◌, ◌≤◌, ◌-◌, reverse, drop, []}
use Rattle.stan_doc_texts.specs.Walk.{stop_of, walk}
use Rattle.stan_doc_texts.proofs.extent.extent.Given as goal

abbrev pub invariant-loop-index : goal.invariant-loop-index
invariant-loop-index l =
    (l.place ≤ l.index) × (walk (stop_of l.border) (reverse l.awaited.items) (drop l.index l.tokens) (l.index - l.place) l.last ≡ walk (stop_of l.border) [] (drop l.place l.tokens) 0 0)
