use Rattle.std.proofs.Common.{sym, arith, ◌+◌}
use Rattle.stan_model_doc.specs.declared.token.DocToken.{DocToken}
use Rattle.stan_doc_tokens.proofs.SeenLemmas.{seen_later}
use Rattle.stan_doc_tokens.proofs.TokenLemmas.{up_to_end, up_to_next}
use Rattle.stan_doc_tokens.proofs.tokens.add_doc_tokens.Goals as goal

-- src/tokens.rt:42:5
pub tokens-preserved : goal.tokens-preserved
tokens-preserved c =
    let t : DocToken = record { kind = c.doc_token-kind.result.0; start = c.run_end-start.result; end = c.doc_token-kind.result.1 } in
    record {
      read = rw c.in_ok-push.ensures.items
          (up_to_next c.args.text.now c.args.from c.args.tokens.now.items c.tokens.at c.tokens.tokens.items t c.tokens.invariant.read c.run_end-start.ensures.value c.doc_token-kind.ensures.rises c.doc_token-kind.ensures.within
          (sym c.doc_token-kind.ensures.value));
      seen = seen_later c.args.text.now (c.run_end-start.result + 1) c.doc_token-kind.result.1 c.doc_token-kind.new.seen c.doc_token-kind.ensures.seen (omega (arith, c.doc_token-kind.ensures.rises));
    }

-- src/tokens.rt:37:1
pub returns : goal.returns
returns c = up_to_end c.args.text.now c.args.from c.args.tokens.now.items c.tokens.at c.tokens.tokens.items c.tokens.invariant.read (omega (arith, c.run_end-start.ensures.value, c.if-start-text.true))
