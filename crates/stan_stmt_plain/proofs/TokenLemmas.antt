-- Nothing is read where no token stands.
use Rattle.std.proofs.Common.{◌≡◌, ℕ, ◌+◌, List, Option, Some, None, refl}
use Rattle.std.specs.Prelude.{slice_get}
use Rattle.stan_model_grammar.specs.Strata.{kind_at, kind_of}
use Rattle.stan_model_grammar.specs.declared.token.Token.{Token}
use Rattle.stan_model_grammar.specs.declared.token.TokenKind.{TokenKind}
use Rattle.stan_model_statements.specs.Kinds.{has, same_kind}
use Rattle.stan_model_statements.specs.Symbols.{Block}
use Rattle.stan_stmt_rules.specs.Ahead.{pick_at}
use Rattle.stan_stmt_rules.specs.Parse.{word_at, word_of, behind}
use Rattle.stan_stmt_parts.proofs.Turns.{no_part}
use Rattle.stan_stmt_parts.specs.Gives.{Leaves, part}
use Rattle.stan_stmt_parts.specs.declared.depth.Depth.{Depth}

pub no_word : (ts : List Token) (ks : List TokenKind) (at : ℕ) → slice_get ts at ≡ None → word_at ts ks at ≡ None
unfolding word_at
no_word ts ks at h = rw h refl

module _ (ts : List Token) (l : Leaves) (d : Depth) (at : ℕ) where
  no_pick : slice_get ts at ≡ None → pick_at ts (behind ts d.levels) Block at ≡ None
  unfolding pick_at kind_at same_kind
  no_pick h = rw h refl

  pub no_block : slice_get ts at ≡ None → part ts l d Block at ≡ None
  no_block h = no_part ts l d Block at (no_pick h)
