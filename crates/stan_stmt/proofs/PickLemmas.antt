-- A statement is read by the production that its next three tokens ask for.
use Rattle.std.proofs.Common.{◌≡◌, ℕ, ◌+◌, List, Option, Some, None, refl, sym, ap, ◌∙◌}
use Rattle.std.specs.Prelude.{slice_get, option_map}
use Rattle.stan_model_grammar.specs.declared.token.Token.{Token}
use Rattle.stan_model_grammar.specs.declared.token.TokenKind.{TokenKind}
use Rattle.stan_model_grammar.specs.declared.token.TokenKind.TheVariants as k
use Rattle.stan_model_grammar.specs.Strata.{kind_at}
use Rattle.stan_model_statements.specs.Kinds.{same_kind}
use Rattle.stan_model_statements.specs.Symbols.{Statement}
use Rattle.stan_stmt_ahead.specs.Rules.{statement_rule}
use Rattle.stan_stmt_ahead.specs.declared.rules.StatementRule.{StatementRule}
use Rattle.stan_stmt_rules.specs.Ahead.{pick, pick_at}
use Rattle.stan_stmt_parts.specs.declared.depth.Depth.{Depth}
use Rattle.stan_stmt_parts.specs.Gives.{Leaves, part, entered}
use Rattle.stan_stmt_parts.proofs.Turns.{Next, part_by, no_part}

-- the kind of no token
ended : (ts : List Token) (at : ℕ) → slice_get ts at ≡ None → kind_at ts at ≡ k.End
unfolding kind_at
ended ts at h = rw h refl

first_kind : (ts : List Token) (at : ℕ) (t : Token) → slice_get ts at ≡ Some t → kind_at ts at ≡ t.kind
unfolding kind_at
first_kind ts at t h = rw h refl

module _ (ts : List Token) (l : Leaves) (d : Depth) (at : ℕ) where
  pub absent : slice_get ts at ≡ None → part ts l d Statement at ≡ None
  unfolding pick_at same_kind
  absent h = no_part ts l d Statement at (rw (ended ts at h) refl)

  -- the choice of the next three tokens
  module _ (t : Token) (b c : TokenKind) (o : Option StatementRule) (first : slice_get ts at ≡ Some t) (second : b ≡ kind_at ts (at + 1)) (third : c ≡ kind_at ts (at + 2))
      (picked : option_map statement_rule o ≡ pick Statement t.kind b c c) where
    next_is : Next ts l d Statement at ≡ option_map statement_rule o
    unfolding pick_at
    next_is = rw (first_kind ts at t first, sym second, sym third) (sym picked)

    pub none_picked : o ≡ None → part ts l d Statement at ≡ None
    none_picked e = no_part ts l d Statement at (next_is ∙ ap (option_map statement_rule) e)

    pub some_picked : (r : StatementRule) → o ≡ Some r → part ts l d Statement at ≡ entered ts l d (statement_rule r) at
    some_picked r e = part_by ts l d Statement (statement_rule r) at (next_is ∙ ap (option_map statement_rule) e)
