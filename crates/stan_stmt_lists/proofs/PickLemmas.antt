-- Parts of lists by the kinds of the next two tokens.
use Rattle.std.proofs.Common.{◌≡◌, ℕ, ◌+◌, Bool, true, false, List, Option, Some, None, refl, ◌∙◌, ◌&&◌}
use Rattle.std.specs.Prelude.{if◌then◌else◌}
use Rattle.stan_expr_rules.specs.Parse.{Read, ◌>>=◌}
use Rattle.stan_model_grammar.specs.Strata.{kind_at}
use Rattle.stan_model_grammar.specs.declared.token.Token.{Token}
use Rattle.stan_model_grammar.specs.declared.token.TokenKind.TheVariants as k
use Rattle.stan_model_statements.specs.Kinds.{same_kind, has}
use Rattle.stan_model_statements.specs.Rules.{Rule}
use Rattle.stan_model_statements.specs.Rules as r
use Rattle.stan_model_statements.specs.Symbols.{FurtherArgument, Closing}
use Rattle.stan_stmt_rules.specs.Ahead.{expression_kinds, pick_at}
use Rattle.stan_stmt_parts.proofs.Turns.{part_picked}
use Rattle.stan_stmt_parts.specs.Gives.{Leaves, part, entered}
use Rattle.stan_stmt_parts.specs.Parse.{Piece}
use Rattle.stan_stmt_parts.specs.declared.depth.Depth.{Depth}

both : (a b : Bool) (r : Rule) (f : Rule → Read Piece) → ((if a && b then (let o : Rule → Option Rule = Some in o r) else None) >>= f) ≡ (if a then (if b then f r else None) else None)
both true true r f = refl
both true false r f = refl
both false b r f = refl

either : (a b c : Bool) (r q : Rule) (f : Rule → Read Piece)
    → ((if a then (let o : Rule → Option Rule = Some in o r) else (if b && c then (let o : Rule → Option Rule = Some in o q) else None)) >>= f) ≡ (if a then f r else (if b then (if c then f q else None) else None))
either true b c r q f = refl
either false b c r q f = both b c q f

module _ (ts : List Token) (l : Leaves) (d : Depth) (at : ℕ) where
  pub argument_by : part ts l d FurtherArgument at
      ≡ (if same_kind (kind_at ts at) k.Comma then (if has expression_kinds (kind_at ts (at + 1)) then entered ts l d r.further_argument at else None) else None)
  unfolding pick_at
  argument_by = part_picked ts l d FurtherArgument at ∙ both (same_kind (kind_at ts at) k.Comma) (has expression_kinds (kind_at ts (at + 1))) r.further_argument (λ q. entered ts l d q at)

  pub closing_by : part ts l d Closing at
      ≡ (if same_kind (kind_at ts at) k.RightParenthesis then entered ts l d r.closing at
      else (if same_kind (kind_at ts at) k.Comma then (if same_kind (kind_at ts (at + 1)) k.RightParenthesis then entered ts l d r.comma_closing at else None) else None))
  unfolding pick_at
  closing_by = part_picked ts l d Closing at
      ∙ either (same_kind (kind_at ts at) k.RightParenthesis) (same_kind (kind_at ts at) k.Comma) (same_kind (kind_at ts (at + 1)) k.RightParenthesis) r.closing r.comma_closing (λ q. entered ts l d q at)
