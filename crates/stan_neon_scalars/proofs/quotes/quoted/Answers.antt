use Rattle.std.proofs.Common.{◌∙◌, ◌+◌, sym, ap, drop, arith}
use Rattle.stan_neon_scalars.proofs.QuoteLemmas.{behind, pair_kept, closed, single_kept, quoted-is}
use Rattle.stan_neon_scalars.specs.Quotes.{quoted_behind}
use Rattle.stan_neon_scalars.proofs.quotes.quoted.Goals as goal

pub loop-at-preserved-in-Some : goal.loop-at-preserved-in-Some
loop-at-preserved-in-Some c =
    let bytes = c.args.bytes.now in
    record {
      within = omega (arith, c.byte_at.ensures.within, c.in-Some.ensures.followed);
      same = pair_kept c.byte_at-quote.result bytes c.loop-at.at c.loop-at-test.true c.loop-at.text.items c.byte_at.result _ c.loop-at.invariant.same c.byte_at.ensures.value c.in-Some.meant c.in-Some.ensures.value
          ∙ ap (λ t. behind t (quoted_behind c.byte_at-quote.result 0 (drop (c.loop-at.at + 2) bytes))) (sym c.in_ok-push.ensures.items);
    }

pub returns-then-byte-quote-clause-value : goal.returns-then-byte-quote-clause-value
returns-then-byte-quote-clause-value c =
    let bytes = c.args.bytes.now in
    closed c.byte_at-quote.result bytes c.loop-at.at c.loop-at-test.true c.loop-at.text.items c.byte_at.result _ c.loop-at.invariant.same c.byte_at.ensures.value c.in_default.ensures.value c.if-byte-quote.true
    ∙ quoted-is bytes c.byte_at-quote.result c.is_quote.result c.byte_at-quote.ensures.value c.is_quote.ensures c.if-not-is_quote.false

pub loop-at-preserved : goal.loop-at-preserved
loop-at-preserved c =
    let bytes = c.args.bytes.now in
    record {
      within = omega arith;
      same = single_kept c.byte_at-quote.result bytes c.loop-at.at c.loop-at-test.true c.loop-at.text.items c.byte_at.result _ c.loop-at.invariant.same c.byte_at.ensures.value c.in_default.ensures.value c.if-byte-quote.false c.is_lost.result c.is_lost.ensures c.if-is_lost.false
          ∙ ap (λ t. behind t (quoted_behind c.byte_at-quote.result 0 (drop (c.loop-at.at + 1) bytes))) (sym c.in_ok-push-2.ensures.items);
    }
