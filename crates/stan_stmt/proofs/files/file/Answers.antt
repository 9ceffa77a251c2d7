use Rattle.std.proofs.Common.{sym, ap, ◌∙◌, arith, length}
use Rattle.std.specs.Prelude.{slice_get}
use Rattle.stan_stmt.proofs.FileLemmas.{whole, broken, past, no_more}
use Rattle.stan_stmt.proofs.files.file.Goals as goal

pub read_front-requires : goal.read_front-requires
read_front-requires c = record { few = omega (arith, no_more c.args.tokens.now, ap length (c.deref.ensures.value ∙ c.in_ok-code.ensures), c.requires.few) }

pub returns-in-Some : goal.returns-in-Some
returns-in-Some c =
    broken c.args.source.now c.args.tokens.now c.deref.result.now (c.deref.ensures.value ∙ c.in_ok-code.ensures) c.in_ok-front.front c.in_ok-front.ensures c.in-Some.token c.line_of_token.result
    (ap (λ ts. slice_get ts c.in_ok-front.front.to) (c.deref.ensures.value ∙ sym c.deref-2.ensures.value) ∙ sym c.token_at.ensures ∙ c.in-Some.is) c.line_of_token.ensures

pub returns : goal.returns
returns c = record {
  spelled = whole c.args.source.now c.args.tokens.now c.deref.result.now (c.deref.ensures.value ∙ c.in_ok-code.ensures) c.in_ok-front.front c.in_ok-front.ensures
      (past c.deref.result.now c.in_ok-front.front.to (ap (λ ts. slice_get ts c.in_ok-front.front.to) (c.deref.ensures.value ∙ sym c.deref-2.ensures.value) ∙ sym c.token_at.ensures ∙ c.in_default.is));
  comments_kept = c.from_vec.ensures ∙ c.in_ok-comments.ensures;
}
