-- Trees by productions: what was read for each symbol, in order.
use Rattle.std.specs.Prelude.{ℕ}
use Rattle.stan_model_doc.specs.declared.token.DocToken.{DocToken}
use Rattle.stan_model_doc.specs.Rules.{Rule}

pub data Forest : Type 0 where
  nil : Forest
  mark : Forest → Forest
  word : DocToken → Forest → Forest
  -- so many tokens of any kind
  any : ℕ → Forest → Forest
  -- a part that does not stand, and the end of a repeated one
  none : Forest → Forest
  -- a part: its production, what it is made of, and what stands behind it
  some : Rule → Forest → Forest → Forest
