use Rattle.std.proofs.Common.{arith}
use Rattle.stan_model_doc.specs.Symbols.{Nowhere}
use Rattle.stan_doc_texts.proofs.Extents.{walked_within}
use Rattle.stan_doc_texts.proofs.extent.any_at.Goals as goal

pub returns-then-is_whole-clause-within : goal.returns-then-is_whole-clause-within
returns-then-is_whole-clause-within c =
    walked_within c.args.tokens.now Nowhere c.args.place c.in_ok-size.size c.in_ok-size.is_whole (omega (arith, c.if-place-tokens.false)) c.if-is_whole.true c.in_ok-size.ensures
