-- Lexemes that are being joined.
use Rattle.std.specs.Prelude.{List, ◌++◌}
use Rattle.stan_model_grammar.specs.declared.token.Token.{Token}
use Rattle.stan_model_grammar.specs.Tokens.{joined}
use Rattle.stan_lexer.specs.declared.joined.Joiner.{Joiner}

-- the tokens that a joiner has when the rest is joined too
abbrev pub joined_behind : Joiner → List Token → List Token
joined_behind joiner rest = joiner.tokens.items ++ joined joiner.before joiner.attribute rest
