use Rattle.std.proofs.Common.{◌≡◌, ◌∙◌, ap, sym, arith}
use Rattle.stan_model_grammar.specs.declared.token.Token.{Token}
use Rattle.stan_model_grammar.specs.Tokens.{top, next_start, lexeme}
use Rattle.stan_lexer.proofs.LexemeLemmas.{AreLexemesUpTo-end, AreLexemes-push_bad}
use Rattle.stan_lexer.proofs.lexemes.lexemes.Goals as goal
use Rattle.stan_lexer.proofs.lexemes.lexemes.Goals.{then-start-source, else-start-source+in_ok-push+then-is_bad}

pub returns : goal.returns
returns c =
    let source = c.args.source.now in
    let start = c.next_start-start.result in
    let e : c.next_start-start.result ≡ next_start source (top c.lexemes.stack.items) c.lexemes.at =
    c.next_start-start.ensures.value ∙ ap (λ o. next_start source o c.lexemes.at) c.top-top.ensures in
    elim c.if-start-source.branch [
      | then-start-source w ↦ rw (ap (λ v. v.items) w.lexemes-is)
          (AreLexemesUpTo-end source c.args.from c.lexemes.stack.items c.lexemes.at c.lexemes.lexemes.items c.lexemes.invariant.read (omega (arith, e, w.if-start-source.true)))
      | else-start-source+in_ok-push+then-is_bad w ↦ rw (ap (λ v. v.items) w.lexemes-is ∙ w.in_ok-push.ensures.items)
          (let t : Token = record { kind = w.lexeme-kind.result.0; start = start; end = w.lexeme-kind.result.1 } in
          AreLexemes-push_bad source c.args.from c.lexemes.stack.items c.lexemes.at c.lexemes.lexemes.items t c.lexemes.invariant.read e w.lexeme-kind.ensures.rises w.lexeme-kind.ensures.within
          (ap (λ o. lexeme source o start) (sym c.top-top.ensures) ∙ sym w.lexeme-kind.ensures.value) (sym w.is_bad.ensures ∙ w.if-is_bad.true))
    ]
