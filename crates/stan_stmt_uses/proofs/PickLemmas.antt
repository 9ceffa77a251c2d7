-- The end of a group by the kinds of the next two tokens.
use Rattle.std.proofs.Common.{◌≡◌, ℕ, ◌+◌, Bool, true, false, List, Option, Some, None, refl, ◌∙◌, ◌&&◌}
use Rattle.std.specs.Prelude.{if◌then◌else◌}
use Rattle.stan_expr_rules.specs.Parse.{Read, ◌>>=◌}
use Rattle.stan_model_grammar.specs.Strata.{kind_at}
use Rattle.stan_model_grammar.specs.declared.token.Token.{Token}
use Rattle.stan_model_grammar.specs.declared.token.TokenKind.TheVariants as k
use Rattle.stan_model_statements.specs.Kinds.{same_kind}
use Rattle.stan_model_statements.specs.Rules.{Rule}
use Rattle.stan_model_statements.specs.Rules as r
use Rattle.stan_model_statements.specs.Symbols.{GroupEnd}
use Rattle.stan_stmt_rules.specs.Ahead.{pick_at}
use Rattle.stan_stmt_parts.proofs.Turns.{part_picked}
use Rattle.stan_stmt_parts.specs.Gives.{Leaves, part, entered}
use Rattle.stan_stmt_parts.specs.Parse.{Piece}
use Rattle.stan_stmt_parts.specs.declared.depth.Depth.{Depth}

either : (a b c : Bool) (r q : Rule) (f : Rule → Read Piece)
    → ((if a then (let o : Rule → Option Rule = Some in o r) else (if b && c then (let o : Rule → Option Rule = Some in o q) else None)) >>= f) ≡ (if a then f r else (if b then (if c then f q else None) else None))
either true b c r q f = refl
either false true true r q f = refl
either false true false r q f = refl
either false false c r q f = refl

pub group_end_by : (ts : List Token) (l : Leaves) (d : Depth) (at : ℕ) → part ts l d GroupEnd at
    ≡ (if same_kind (kind_at ts at) k.RightBrace then entered ts l d r.group_end at
    else (if same_kind (kind_at ts at) k.Comma then (if same_kind (kind_at ts (at + 1)) k.RightBrace then entered ts l d r.comma_group_end at else None) else None))
unfolding pick_at
group_end_by ts l d at = part_picked ts l d GroupEnd at
    ∙ either (same_kind (kind_at ts at) k.RightBrace) (same_kind (kind_at ts at) k.Comma) (same_kind (kind_at ts (at + 1)) k.RightBrace) r.group_end r.comma_group_end (λ q. entered ts l d q at)
