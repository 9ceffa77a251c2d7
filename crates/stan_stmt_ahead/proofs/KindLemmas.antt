-- Kinds that differ.
use Rattle.std.proofs.Common.{◌≡◌, false, rules}
use denote.Enum.Bare.{false_same}
use Rattle.stan_model_grammar.specs.contracts.token.TokenKind.{the_type}
use Rattle.stan_model_grammar.specs.declared.token.TokenKind.{TokenKind}
use Rattle.stan_model_statements.specs.Kinds.{same_kind}

pub differs : (a b : TokenKind) → (a ≡ b → ⊥) → same_kind a b ≡ false
unfolding same_kind
differs a b h = false_same the_type (search rules) a b h
