use Rattle.std.proofs.Common.{◌≡◌, ◌≤◌, drop, None}
use Rattle.std.specs.Option.{IfSome}
use Rattle.stan_model_grammar.specs.declared.token.TokenKind.TheVariants as kinds
use Rattle.stan_model_grammar.specs.Tokens.{joined}
use Rattle.stan_lexer.specs.Joined.{joined_behind}
use Rattle.stan_lexer.proofs.joined.joined.Given as goal

-- The lexemes that are left complete the tokens.
abbrev pub invariant-loop-lexeme : goal.invariant-loop-lexeme
invariant-loop-lexeme l = record {
  shallow : IfSome l.joiner.attribute (λ a. a.1 ≤ l.lexeme-index);
  same : joined_behind l.joiner (drop l.lexeme-index l.lexemes) ≡ joined kinds.End None l.lexemes;
}
