-- How statements follow one another.
use Rattle.std.specs.Prelude.{Bool, true, false}
use Rattle.stan_model_grammar.specs.declared.token.TokenKind.{TokenKind}
use Rattle.stan_model_grammar.specs.declared.token.TokenKind.TheVariants as kinds

-- a token that goes on with the statement before it
abbrev pub goes_on : TokenKind → Bool
goes_on kinds.Else = true
goes_on kinds.ElseIf = true
goes_on kinds.Catch = true
goes_on kinds.Finally = true
goes_on _ = false
