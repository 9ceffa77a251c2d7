-- Trees by productions: what was read for each symbol, in order.
use Rattle.stan_model_grammar.specs.declared.token.Token.{Token}
use Rattle.stan_model_grammar.specs.Trees.{Tree}
use Rattle.stan_model_statements.specs.Rules.{Rule}

pub data Forest : Type 0 where
  nil : Forest
  mark : Forest → Forest
  word : Token → Forest → Forest
  expr : Tree → Forest → Forest
  -- a part that does not stand, and the end of a repeated one
  none : Forest → Forest
  -- a part: its production, what it is made of, and what stands behind it
  some : Rule → Forest → Forest → Forest
