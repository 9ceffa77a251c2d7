-- Places where something stands are within the tokens, and an operator is one or two of them.
use Rattle.std.proofs.Common.{Bool, true, false, if◌then◌else◌, slice_get, refl, ◌≡◌, ℕ, ◌+◌, ◌≤◌, ◌<◌, List, length, Option, Some, None, arith, sym, ap, ◌∙◌}
use Rattle.stan_model_grammar.specs.declared.operators.AssignmentOperator.{AssignmentOperator}
use Rattle.stan_model_grammar.specs.declared.operators.AssignmentOperator.TheVariants as assignments
use Rattle.stan_model_grammar.specs.declared.operators.BinaryOperator.{BinaryOperator}
use Rattle.stan_model_grammar.specs.declared.operators.BinaryOperator.TheVariants as binaries
use Rattle.stan_model_grammar.specs.declared.token.Token.{Token}
use Rattle.stan_model_grammar.specs.Strata.{kind_at, binary_size, assignment_at, assignment_size}
use Rattle.stan_expr_rules.proofs.InsideLemmas.{kind_inside}
use Rattle.stan_expr_rules.specs.Places.{after, after_of, same_kind, assigning_at}
use Rattle.std.proofs.lemmas.Option.{slice_get_within}
use Rattle.stan_model_grammar.specs.declared.token.TokenKind.{TokenKind}
use Rattle.stan_model_grammar.specs.declared.token.TokenKind.TheVariants as kinds
use Rattle.stan_expr_rules.proofs.Choices.{nothing_is}

if_some : (b : Bool) (at to : ℕ) → (if b then Some (at + 1) else None) ≡ Some to → to ≡ at + 1
if_some true at to h = cc
if_some false at to h = absurd cc

after_of_inside : (ts : List Token) (kind : TokenKind) (at to : ℕ) (o : Option Token) → slice_get ts at ≡ o → after_of o kind at ≡ Some to → to ≤ length ts
after_of_inside ts kind at to None e h = absurd cc
after_of_inside ts kind at to (Some t) e h = let i = slice_get_within ts at t e in let s = if_some (same_kind t.kind kind) at to h in omega (arith, i, s)

pub after_inside : (ts : List Token) (kind : TokenKind) (at to : ℕ) → after ts kind at ≡ Some to → to ≤ length ts
unfolding after
after_inside ts kind at to h = after_of_inside ts kind at to (slice_get ts at) refl h

pub assigning_inside : (ts : List Token) (at : ℕ) (o : AssignmentOperator) → assigning_at ts at ≡ Some o → at < length ts
unfolding assigning_at
assigning_inside ts at o h = kind_inside ts at (λ e. nothing_is o (sym (ap (λ k. assignment_at k (kind_at ts (at + 1))) e) ∙ h))

pub binary_size_most : (o : BinaryOperator) → binary_size o ≤ 2
binary_size_most binaries.Elvis = omega arith
binary_size_most o = omega arith

pub assignment_size_most : (o : AssignmentOperator) → assignment_size o ≤ 2
assignment_size_most assignments.Reference = omega arith
assignment_size_most o = omega arith
