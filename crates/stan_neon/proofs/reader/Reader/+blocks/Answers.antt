use Rattle.std.proofs.Common.{◌≡◌, ◌∙◌, ◌++◌, sym, ap, append-nil, true, false}
use Rattle.std.specs.Prelude.{Some}
use Rattle.stan_model_neon.specs.declared.node.Node.TheVariants.{rolls-List, rolls-Map}
use Rattle.stan_model_neon.specs.Nodes.{Listed, Mapped}
use Rattle.stan_model_neon.specs.Outlines.{Items as ItemLines}
use Rattle.stan_model_neon.specs.Outlines.{Pairs as PairLines}
use Rattle.stan_model_neon.specs.Outlines.{node_of, items_of, pairs_of}
use Rattle.stan_neon_lines.specs.Feed.{line_of}
use Rattle.stan_neon.specs.Reader.{ahead, dashes_of, indentation_of, kind_is, next_is_in}
use Rattle.stan_neon.specs.Reading.{Read, read_lines}
use Rattle.stan_neon.proofs.BlockLemmas.{stop-next, items-smaller, items-kept, items-rest, pairs-smaller, pairs-kept, pairs-rest, list-is, map-is}
use Rattle.stan_neon.proofs.reader.Reader.+blocks.Goals as goal

pub items-loop-nodes-smaller : goal.items-loop-nodes-smaller
items-loop-nodes-smaller t c =
    let taken = rw c.in-Some.is at c.in_ok-line.ensures.taken in
    let lines = rw c.in-Some.is at c.in_ok-line.ensures.lines in
    items-smaller c.args.left (dashes_of c.args.self.now) (dashes_of c.loop-nodes.self) (dashes_of c.take.new.self) (indentation_of c.args.place) (line_of c.in-Some.line) (ahead c.loop-nodes.self) (ahead c.take.new.self) (ahead c.item.new.self)
    c.loop-nodes.invariant.dashes c.in_ok-line.ensures.dashes lines taken c.in_ok-node.ensures.lines

pub items-loop-nodes-preserved : goal.items-loop-nodes-preserved
items-loop-nodes-preserved t c =
    let taken = rw c.in-Some.is at c.in_ok-line.ensures.taken in
    let lines = rw c.in-Some.is at c.in_ok-line.ensures.lines in
    let dashes_at_start = dashes_of c.args.self.now in
    let dashes_before = dashes_of c.loop-nodes.self in
    let dashes_after = dashes_of c.take.new.self in
    let p = indentation_of c.args.place in
    let x = line_of c.in-Some.line in
    record {
      value = items-kept c.args.left dashes_at_start dashes_before dashes_after p x (ahead c.loop-nodes.self) (ahead c.take.new.self) (ahead c.item.new.self) c.loop-nodes.invariant.dashes c.in_ok-line.ensures.dashes lines taken c.in_ok-node.ensures.lines
          _ c.loop-nodes.nodes c.push.new.self c.in_ok-node.node c.loop-nodes.invariant.value c.in_ok-node.ensures.value c.in_ok-push.ensures.ok;
      rest = items-rest c.args.left dashes_at_start dashes_before dashes_after p x (ahead c.loop-nodes.self) (ahead c.take.new.self) (ahead c.item.new.self) c.loop-nodes.invariant.dashes c.in_ok-line.ensures.dashes lines taken c.in_ok-node.ensures.lines
          _ c.loop-nodes.invariant.rest;
      dashes = c.in_ok-node.ensures.dashes ∙ c.in_ok-line.ensures.dashes ∙ c.loop-nodes.invariant.dashes;
    }

pub items-returns-clause-value : goal.items-returns-clause-value
items-returns-clause-value t c =
    let taken = rw c.in_default.is at c.in_ok-line.ensures.taken in
    let same = c.loop-nodes.invariant.dashes in
    let p = indentation_of c.args.place in
    let stop = stop-next c.args.left (dashes_of c.args.self.now) ItemLines p (ahead c.loop-nodes.self) (ap (λ d. next_is_in d ItemLines p (ahead c.loop-nodes.self)) (sym same) ∙ taken) in
    sym (c.loop-nodes.invariant.value ∙ ap (λ (r : Read). c.loop-nodes.nodes ++ items_of r.0) stop ∙ append-nil c.loop-nodes.nodes)

pub items-returns-clause-lines : goal.items-returns-clause-lines
items-returns-clause-lines t c =
    let taken = rw c.in_default.is at c.in_ok-line.ensures.taken in
    let lines = rw c.in_default.is at c.in_ok-line.ensures.lines in
    let same = c.loop-nodes.invariant.dashes in
    let p = indentation_of c.args.place in
    let stop = stop-next c.args.left (dashes_of c.args.self.now) ItemLines p (ahead c.loop-nodes.self) (ap (λ d. next_is_in d ItemLines p (ahead c.loop-nodes.self)) (sym same) ∙ taken) in
    lines ∙ sym (c.loop-nodes.invariant.rest ∙ ap (λ (r : Read). r.1) stop)

pub pairs-loop-pairs-smaller : goal.pairs-loop-pairs-smaller
pairs-loop-pairs-smaller t c =
    let taken = rw c.in-Some.is at c.in_ok-line.ensures.taken in
    let lines = rw c.in-Some.is at c.in_ok-line.ensures.lines in
    pairs-smaller c.args.left (dashes_of c.args.self.now) (dashes_of c.loop-pairs.self) (dashes_of c.take.new.self) (indentation_of c.args.place) (line_of c.in-Some.line) (ahead c.loop-pairs.self) (ahead c.take.new.self) (ahead c.pair.new.self)
    c.loop-pairs.invariant.dashes c.in_ok-line.ensures.dashes lines taken c.in_ok-pair.ensures.lines

pub pairs-loop-pairs-preserved : goal.pairs-loop-pairs-preserved
pairs-loop-pairs-preserved t c =
    let taken = rw c.in-Some.is at c.in_ok-line.ensures.taken in
    let lines = rw c.in-Some.is at c.in_ok-line.ensures.lines in
    let dashes_at_start = dashes_of c.args.self.now in
    let dashes_before = dashes_of c.loop-pairs.self in
    let dashes_after = dashes_of c.take.new.self in
    let p = indentation_of c.args.place in
    let x = line_of c.in-Some.line in
    record {
      value = pairs-kept c.args.left dashes_at_start dashes_before dashes_after p x (ahead c.loop-pairs.self) (ahead c.take.new.self) (ahead c.pair.new.self) c.loop-pairs.invariant.dashes c.in_ok-line.ensures.dashes lines taken c.in_ok-pair.ensures.lines
          _ c.loop-pairs.pairs c.push.new.self c.in_ok-pair.pair c.loop-pairs.invariant.value c.in_ok-pair.ensures.value c.in_ok-push.ensures.ok;
      rest = pairs-rest c.args.left dashes_at_start dashes_before dashes_after p x (ahead c.loop-pairs.self) (ahead c.take.new.self) (ahead c.pair.new.self) c.loop-pairs.invariant.dashes c.in_ok-line.ensures.dashes lines taken c.in_ok-pair.ensures.lines
          _ c.loop-pairs.invariant.rest;
      dashes = c.in_ok-pair.ensures.dashes ∙ c.in_ok-line.ensures.dashes ∙ c.loop-pairs.invariant.dashes;
    }

pub pairs-returns-clause-value : goal.pairs-returns-clause-value
pairs-returns-clause-value t c =
    let taken = rw c.in_default.is at c.in_ok-line.ensures.taken in
    let same = c.loop-pairs.invariant.dashes in
    let p = indentation_of c.args.place in
    let stop = stop-next c.args.left (dashes_of c.args.self.now) PairLines p (ahead c.loop-pairs.self) (ap (λ d. next_is_in d PairLines p (ahead c.loop-pairs.self)) (sym same) ∙ taken) in
    sym (c.loop-pairs.invariant.value ∙ ap (λ (r : Read). c.loop-pairs.pairs ++ pairs_of r.0) stop ∙ append-nil c.loop-pairs.pairs)

pub pairs-returns-clause-lines : goal.pairs-returns-clause-lines
pairs-returns-clause-lines t c =
    let taken = rw c.in_default.is at c.in_ok-line.ensures.taken in
    let lines = rw c.in_default.is at c.in_ok-line.ensures.lines in
    let same = c.loop-pairs.invariant.dashes in
    let p = indentation_of c.args.place in
    let stop = stop-next c.args.left (dashes_of c.args.self.now) PairLines p (ahead c.loop-pairs.self) (ap (λ d. next_is_in d PairLines p (ahead c.loop-pairs.self)) (sym same) ∙ taken) in
    lines ∙ sym (c.loop-pairs.invariant.rest ∙ ap (λ (r : Read). r.1) stop)

pub lines-returns-else-is_empty-clause-value : goal.lines-returns-else-is_empty-clause-value
lines-returns-else-is_empty-clause-value t c =
    let value = c.in_ok-nodes-in-Items.ensures.value in
    let dashes_at_start = dashes_of c.args.self.now in
    let p = c.args.opened.indentation.now in
    sym (rolls-List c.in_ok-nodes-in-Items.nodes) ∙ ap Listed value
    ∙ list-is c.args.left dashes_at_start p (ahead c.args.self.now) (c.requires ∙ ap (λ k. Some (kind_is k)) c.in-Items.is)
    (λ e. let f : true ≡ false = sym (c.is_empty.ensures.1 (value ∙ e)) ∙ c.if-is_empty.false in cc f)
    ∙ ap (λ k. node_of (read_lines c.args.left dashes_at_start (kind_is k) p (ahead c.args.self.now)).0) (sym c.in-Items.is)

pub lines-returns-else-is_empty-2-clause-value : goal.lines-returns-else-is_empty-2-clause-value
lines-returns-else-is_empty-2-clause-value t c =
    let dashes_at_start = dashes_of c.args.self.now in
    let p = c.args.opened.indentation.now in
    let value : c.in_ok-pairs-in-Pairs.pairs ≡ pairs_of (read_lines c.args.left dashes_at_start PairLines p (ahead c.args.self.now)).0 =
    c.in_ok-pairs-in-Pairs.ensures.value ∙ ap (λ ps. ps ++ pairs_of (read_lines c.args.left dashes_at_start PairLines p (ahead c.args.self.now)).0) c.new.ensures in
    sym (rolls-Map c.in_ok-pairs-in-Pairs.pairs) ∙ ap Mapped value
    ∙ map-is c.args.left dashes_at_start p (ahead c.args.self.now) (c.requires ∙ ap (λ k. Some (kind_is k)) c.in-Pairs.is)
    (λ e. let f : true ≡ false = sym (c.is_empty-in-Pairs.ensures.1 (value ∙ e)) ∙ c.if-is_empty-2.false in cc f)
    ∙ ap (λ k. node_of (read_lines c.args.left dashes_at_start (kind_is k) p (ahead c.args.self.now)).0) (sym c.in-Pairs.is)
