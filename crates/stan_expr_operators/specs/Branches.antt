-- The second and the third part of `? :`.
use Rattle.std.specs.Prelude.{ℕ, Bool, false, List, Some}
use Rattle.stan_model_grammar.specs.declared.token.Token.{Token}
use Rattle.stan_model_grammar.specs.declared.token.TokenKind.TheVariants as kinds
use Rattle.stan_model_grammar.specs.Strata.{loosest}
use Rattle.stan_model_grammar.specs.Trees.{Tree}
use Rattle.stan_expr_rules.specs.Parse.{Read, ◌>>=◌}
use Rattle.stan_expr_rules.specs.Places.{after}

unfoldable pub branches : List Token → (Bool → ℕ → ℕ → Read Tree) → ℕ → Read (Tree × Tree)
branches ts below at = do
  d ← below false loosest at
  from ← after ts kinds.Colon d.1
  e ← below false 21 from
  Some ((d.0, e.0), e.1)
