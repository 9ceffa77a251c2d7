use Rattle.std.proofs.Common.{◌∙◌, ◌+◌, ◌-◌, [], ◌∷◌, sym, ap, length, drop, length-append, arith}
use Rattle.std.specs.Prelude.{Some}
use Rattle.stan_neon_scalars.specs.Scalars.{items, items_within}
use Rattle.stan_neon_scalars.proofs.ItemLemmas.{behind_nodes, no_item, one_more, last, other, read_from, none_from}
use Rattle.stan_neon_scalars.proofs.scalars.items.Goals as goal

pub returns-in_default-clause-value : goal.returns-in_default-clause-value
unfolding items
returns-in_default-clause-value c =
    let bytes = c.args.bytes.now in
    let i = c.items.invariant in
    no_item bytes c.args.from c.items.at c.items.nodes _ i.within i.room i.same (none_from bytes c.items.at c.in_ok-read.field-0 c.in_ok-read.ensures.value c.in_default.is)

pub items-preserved : goal.items-preserved
items-preserved c =
    let bytes = c.args.bytes.now in
    let i = c.items.invariant in
    let read = c.in-Some.read in
    let pushed = c.in_ok-push.ensures.ok in
    record {
      within = omega arith;
      room = omega (arith, ap length pushed, length-append c.items.nodes (read.node ∷ []), i.room, c.unblanked-behind.ensures.rises, c.unblanked-at.ensures.rises);
      same = one_more bytes c.args.from c.items.at c.items.nodes _ i.within i.room i.same read.node read.end c.unblanked-behind.result c.byte_at-byte.result
          (read_from bytes c.items.at c.in_ok-read.field-0 read c.in_ok-read.ensures.value c.in-Some.is) c.unblanked-behind.ensures.value c.byte_at-byte.ensures.value c.unblanked-at.result c.if-byte-eq44.true c.unblanked-at.ensures.value
          ∙ ap (λ n. behind_nodes n (items_within (length (drop c.args.from bytes) - length n) (drop c.unblanked-at.result bytes))) (sym pushed);
    }

pub returns-then-byte-eq93-clause-value : goal.returns-then-byte-eq93-clause-value
unfolding items
returns-then-byte-eq93-clause-value c =
    let bytes = c.args.bytes.now in
    let i = c.items.invariant in
    let read = c.in-Some.read in
    ap (λ n. Some (n, drop (c.unblanked-behind.result + 1) bytes)) c.in_ok-push.ensures.ok
    ∙ last bytes c.args.from c.items.at c.items.nodes _ i.within i.room i.same read.node read.end c.unblanked-behind.result c.byte_at-byte.result
    (read_from bytes c.items.at c.in_ok-read.field-0 read c.in_ok-read.ensures.value c.in-Some.is) c.unblanked-behind.ensures.value c.byte_at-byte.ensures.value c.if-byte-eq93.true

pub returns-else-byte-eq93-clause-value : goal.returns-else-byte-eq93-clause-value
unfolding items
returns-else-byte-eq93-clause-value c =
    let bytes = c.args.bytes.now in
    let i = c.items.invariant in
    let read = c.in-Some.read in
    other bytes c.args.from c.items.at c.items.nodes _ i.within i.room i.same read.node read.end c.unblanked-behind.result c.byte_at-byte.result
    (read_from bytes c.items.at c.in_ok-read.field-0 read c.in_ok-read.ensures.value c.in-Some.is) c.unblanked-behind.ensures.value c.byte_at-byte.ensures.value c.if-byte-eq44.false c.if-byte-eq93.false
