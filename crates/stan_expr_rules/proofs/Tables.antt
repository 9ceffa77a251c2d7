-- Tables of operators: their strata, and in which stratum a token goes on.
use Rattle.std.proofs.Common.{◌≡◌, ◌≢◌, ◌≤◌, Bool, true, false, IsTrue, Some, refl, sym, ap, arith, true≢false}
use Rattle.stan_model_grammar.specs.declared.operators.AssignmentOperator.{AssignmentOperator}
use Rattle.stan_model_grammar.specs.declared.operators.BinaryOperator.{BinaryOperator}
use Rattle.stan_model_grammar.specs.declared.operators.PrefixOperator.{PrefixOperator}
use Rattle.stan_model_grammar.specs.declared.operators.PrefixOperator.TheVariants as prefixes
use Rattle.stan_model_grammar.specs.declared.token.TokenKind.{TokenKind}
use Rattle.stan_model_grammar.specs.declared.token.TokenKind.TheVariants as kinds
use Rattle.stan_model_grammar.specs.Strata.{joins, joins_operated, joins_assigned, joins_alone, double_colon, binary_at, binary_stratum, prefix_stratum, assignment_at, loosest}
use Rattle.stan_model_grammar.specs.Expressions.{arrow, class_suffix, is_scoped}

pub prefix_bounds : (o : PrefixOperator) → (5 ≤ prefix_stratum o) × (prefix_stratum o ≤ loosest)
prefix_bounds prefixes.Clone = (omega arith, omega arith)
prefix_bounds o = (omega arith, omega arith)

pub double_colon_bounds : (next : TokenKind) → (2 ≤ double_colon next) × (double_colon next ≤ 4)
double_colon_bounds kinds.Variable = (omega arith, omega arith)
double_colon_bounds next = (omega arith, omega arith)

pub question_joins : (next : TokenKind) → next ≢ kinds.Colon → joins kinds.Question next ≡ 22
question_joins kinds.Colon apart = absurd (apart refl)
question_joins next apart = refl

pub operator_joins : (kind next : TokenKind) (o : BinaryOperator) → binary_at kind next ≡ Some o → joins kind next ≡ binary_stratum o
operator_joins kind next o e = ap (λ y. joins_operated y (joins_assigned (assignment_at kind next) (joins_alone kind next))) e

pub assignment_joins : (kind next : TokenKind) (o : AssignmentOperator) → assignment_at kind next ≡ Some o → joins kind next ≡ 5
assignment_joins kinds.Assign next o e = refl
assignment_joins kinds.PlusAssign next o e = refl
assignment_joins kinds.MinusAssign next o e = refl
assignment_joins kinds.TimesAssign next o e = refl
assignment_joins kinds.DivideAssign next o e = refl
assignment_joins kinds.DotAssign next o e = refl
assignment_joins kinds.ModuloAssign next o e = refl
assignment_joins kinds.PowerAssign next o e = refl
assignment_joins kinds.AmpersandAssign next o e = refl
assignment_joins kinds.BarAssign next o e = refl
assignment_joins kinds.CaretAssign next o e = refl
assignment_joins kinds.ShiftLeftAssign next o e = refl
assignment_joins kinds.ShiftRightAssign next o e = refl
assignment_joins kinds.CoalesceAssign next o e = refl
assignment_joins kind next o e = cc

pub arrow_joins : (nullsafe : Bool) (next : TokenKind) → joins (arrow nullsafe) next ≡ 3
arrow_joins true next = refl
arrow_joins false next = refl

-- behind the `::` of a class stands a variable
pub scoped_variable : (kind : TokenKind) → IsTrue (is_scoped class_suffix kind) → kind ≡ kinds.Variable
scoped_variable kinds.Variable h = refl
scoped_variable kind h = absurd (true≢false (sym h))
