use Rattle.std.proofs.Common.{◌∙◌, ◌+◌, ◌++◌, sym, ap, take, drop, arith}
use Rattle.stan_neon_scalars.specs.Numbers.{front}
use Rattle.stan_neon_scalars.proofs.PlainLemmas.{stripped-blank, stripped-whole, front-goes-on}
use Rattle.stan_neon_scalars.proofs.plain.plain_len.Goals as goal
use Rattle.stan_neon_scalars.proofs.plain.plain_len.Goals.{then-not-is_blank, else-not-is_blank}

pub loop-i-preserved : goal.loop-i-preserved
loop-i-preserved c =
    let bytes = c.args.bytes.now in
    let i = c.loop-i.i in
    let lt = c.loop-i-test.true in
    let same = front-goes-on bytes i lt c.args.listed c.loop-i.before _ c.loop-i.invariant.same (sym c.closes.ensures ∙ c.if-closes.false) in
    elim c.if-not-is_blank.branch [
      | then-not-is_blank w ↦ record {
        within = omega (arith, w.end-is);
        same = same ∙ ap (λ b. take (i + 1) bytes ++ front c.args.listed b (drop (i + 1) bytes)) (sym w.before-is);
        kept = stripped-whole bytes i lt (sym c.is_blank.ensures ∙ w.if-not-is_blank.true) ∙ ap (λ n. take n bytes) (sym w.end-is);
      }
      | else-not-is_blank w ↦ record {
        within = omega (arith, w.end-is);
        same = same ∙ ap (λ b. take (i + 1) bytes ++ front c.args.listed b (drop (i + 1) bytes)) (sym w.before-is);
        kept = stripped-blank bytes i lt c.loop-i.end c.loop-i.invariant.kept (sym c.is_blank.ensures ∙ w.if-not-is_blank.false) ∙ ap (λ n. take n bytes) (sym w.end-is);
      }
    ]
