-- What is read of an expression: its tree, and what stands between the braces of its closures, from left to right.
use Rattle.std.specs.Prelude.{ℕ, zero, suc, ◌+◌, ◌==◌, nat_le, if◌then◌else◌, Bool, List, [], ◌∷◌, Option, Some, None}
use Rattle.stan_model_grammar.specs.declared.token.Token.{Token}
use Rattle.stan_model_grammar.specs.Sites.{HeldBody, sites, bodies_among}
use Rattle.stan_model_readings.specs.Fronts.{is_strict_types}
use Rattle.stan_expr_rules.specs.Parse.{Read, ◌>>=◌}
use Rattle.stan_model_files.specs.Shapes.{Shape, expr, Bodies, no_body, body, inside}
use Rattle.stan_stmt_rules.specs.Parse.{expression, behind, most}
use Rattle.stan_stmt_parts.specs.Parse.{Putting, run, read}
use Rattle.stan_stmt_parts.specs.Gives.{Leaves}

module _ (ts : List Token) (named : Token → Bool) where
  -- by what is read of expressions in bodies, with how deep productions may still nest and how many levels are open
  module _ (value : ℕ → ℕ → Bool → ℕ → Read Putting) where
    -- statements up to a `}`, and the place behind it
    abbrev pub block_at : ℕ → ℕ → ℕ → Read Shape
    block_at room levels at = run ts named value (behind ts) (read ts named value (behind ts) room levels) levels room inside at

    -- what ends where the body does
    abbrev pub ended : HeldBody → Read Shape → Option Shape
    ended held None = None
    ended held (Some f) = if f.1 == held.last + 1 then Some f.0 else None

    -- what stands behind the `{` of a body, up to its `}`. Its braces open a level more than are open around it.
    abbrev pub body_at : ℕ → ℕ → HeldBody → Option Shape
    body_at zero levels held = None
    body_at (suc n) levels held = if nat_le (levels + held.levels + 1) most then ended held (block_at n (levels + held.levels + 1) held.first) else None

    abbrev pub bodies_at : ℕ → ℕ → List HeldBody → Option Bodies
    bodies_at room levels [] = Some no_body
    bodies_at room levels (held ∷ others) = body_at room levels held >>= λ f. bodies_at room levels others >>= λ bs. Some (body held f bs)

    -- an expression with its bodies
    abbrev pub valued : ℕ → ℕ → Bool → ℕ → Read Putting
    valued room levels pattern at = expression ts levels pattern at >>= λ e. bodies_at room levels (bodies_among (sites 0 e.0)) >>= λ bs. Some (expr e.0 bs, e.1)

  -- The first number bounds how often bodies stand in one another,
  abbrev pub nested : ℕ → ℕ → ℕ → Bool → ℕ → Read Putting
  nested zero room levels pattern at = None
  nested (suc n) room levels pattern at = valued (nested n) room levels pattern at

  -- which is no more often than there is room.
  unfoldable pub value_at : ℕ → ℕ → Bool → ℕ → Read Putting
  value_at room levels pattern at = nested (suc room) room levels pattern at

-- what the parser of a source reads
abbrev pub leaves_of : List ℕ → Leaves
leaves_of source = record { named = is_strict_types source; value = λ ts. value_at ts (is_strict_types source) }
