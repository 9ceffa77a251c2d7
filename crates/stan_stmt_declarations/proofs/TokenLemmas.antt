-- No class begins where no token stands.
use Rattle.std.proofs.Common.{◌≡◌, ℕ, suc, ◌+◌, List, [], length, Some, None, refl, arith}
use Rattle.std.specs.Prelude.{slice_get}
use Rattle.stan_model_grammar.specs.Strata.{kind_at}
use Rattle.stan_model_grammar.specs.declared.token.Token.{Token}
use Rattle.stan_model_grammar.specs.declared.token.TokenKind.{TokenKind}
use Rattle.stan_model_statements.specs.Kinds.{same_kind}
use Rattle.stan_model_statements.specs.Symbols.{ClassModifier}
use Rattle.stan_stmt_rules.specs.Ahead.{pick_at}
use Rattle.stan_stmt_rules.specs.Parse.{after, behind}
use Rattle.stan_stmt_parts.specs.Gives.{Leaves, every}
use Rattle.stan_stmt_parts.specs.Parse.{all}
use Rattle.stan_stmt_parts.specs.declared.depth.Depth.{Depth}

pub no_mark : (ts : List Token) (kind : TokenKind) (at : ℕ) → slice_get ts at ≡ None → after ts kind at ≡ None
unfolding after
no_mark ts kind at h = rw h refl

module _ (ts : List Token) (l : Leaves) (d : Depth) (at : ℕ) where
  no_pick : slice_get ts at ≡ None → pick_at ts (behind ts d.levels) ClassModifier at ≡ None
  unfolding pick_at kind_at same_kind
  no_pick h = rw h refl

  pub no_modifier : slice_get ts at ≡ None → every ts l d ClassModifier at ≡ Some ([], at)
  unfolding every all
  no_modifier h = let k : length ts + 1 ≡ suc (length ts) = omega arith in rw k (rw (no_pick h) refl)
