use Rattle.std.proofs.Common.{refl, subst}
use Rattle.stan_model_grammar.specs.Tokens.{IsOpenText}
use Rattle.stan_lexer.proofs.CutLemmas.{IsCut-at}
use Rattle.stan_lexer.proofs.lexer.cut.Goals as goal

pub returns : goal.returns
returns c = IsCut-at c.args.tokens.items c.push.new.self.items c.in-Some.first c.index-token.result.now
    (subst (λ ts. IsOpenText ts c.in-Some.first) c.deref.ensures.value c.in-Some.ensures)
    c.index-token.ensures (rw c.in_ok-push.ensures.items (rw c.truncate.ensures.items refl))
