-- What stands at a place of a list of tokens, as the parser asks it.
use Rattle.std.specs.Prelude.{ℕ, ◌+◌, if◌then◌else◌, Bool, true, false, List, Option, Some, None, slice_get}
use denote.Enum.Bare.{sameb}
use Rattle.stan_model_grammar.specs.contracts.token.TokenKind.{the_type}
use Rattle.stan_model_grammar.specs.declared.operators.AssignmentOperator.{AssignmentOperator}
use Rattle.stan_model_grammar.specs.declared.operators.BinaryOperator.{BinaryOperator}
use Rattle.stan_model_grammar.specs.declared.token.Token.{Token}
use Rattle.stan_model_grammar.specs.declared.token.TokenKind.{TokenKind}
use Rattle.stan_model_grammar.specs.Strata.{kind_at, joins, binary_at, assignment_at}

unfoldable pub same_kind : TokenKind → TokenKind → Bool
same_kind = sameb the_type

abbrev pub after_of : Option Token → TokenKind → ℕ → Option ℕ
after_of None kind at = None
after_of (Some t) kind at = if same_kind t.kind kind then Some (at + 1) else None

-- the place behind a token of this kind, if one stands there
unfoldable pub after : List Token → TokenKind → ℕ → Option ℕ
after ts kind at = after_of (slice_get ts at) kind at

abbrev pub may_of : Option ℕ → ℕ → Bool × ℕ
may_of (Some to) at = (true, to)
may_of None at = (false, at)

-- whether such a token stands there, and the place behind it
unfoldable pub may : List Token → TokenKind → ℕ → Bool × ℕ
may ts kind at = may_of (after ts kind at) at

-- the stratum in which the token there goes on with the expression before it
unfoldable pub joins_at : List Token → ℕ → ℕ
joins_at ts at = joins (kind_at ts at) (kind_at ts (at + 1))

unfoldable pub operator_at : List Token → ℕ → Option BinaryOperator
operator_at ts at = binary_at (kind_at ts at) (kind_at ts (at + 1))

unfoldable pub assigning_at : List Token → ℕ → Option AssignmentOperator
assigning_at ts at = assignment_at (kind_at ts at) (kind_at ts (at + 1))
