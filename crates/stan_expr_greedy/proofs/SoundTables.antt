-- In which stratum a token goes on, by what the parser asked of it.
use Rattle.std.proofs.Common.{◌≡◌, ℕ, ◌≤◌, ◌<◌, ◌==◌, None, if◌then◌else◌, refl, sym, ap, subst, ◌∙◌, arith}
use Rattle.stan_model_grammar.specs.declared.operators.BinaryOperator.{BinaryOperator}
use Rattle.stan_model_grammar.specs.declared.operators.BinaryOperator.TheVariants as binaries
use Rattle.stan_model_grammar.specs.declared.operators.Fixity.{Fixity}
use Rattle.stan_model_grammar.specs.declared.operators.Fixity.TheVariants as fixities
use Rattle.stan_model_grammar.specs.declared.operators.Leaf.{Leaf}
use Rattle.stan_model_grammar.specs.declared.operators.Leaf.TheVariants as leaves
use Rattle.stan_model_grammar.specs.declared.token.TokenKind.{TokenKind}
use Rattle.stan_model_grammar.specs.declared.token.TokenKind.TheVariants as kinds
use Rattle.stan_model_grammar.specs.Strata.{leaf_low, joins, joins_operated, joins_assigned, joins_alone, double_colon, question, binary_at, binary_stratum, fixity, tighter, right_side, assignment_at}
use Rattle.stan_expr_rules.proofs.Tables.{double_colon_bounds}

-- ---- strata

pub leaf_low_small : (leaf : Leaf) → leaf_low leaf ≤ 1
leaf_low_small leaves.Static = omega arith
leaf_low_small leaf = omega arith

pub stratum_bounds : (o : BinaryOperator) → (6 ≤ binary_stratum o) × (binary_stratum o ≤ 28)
stratum_bounds binaries.Power = (omega arith, omega arith)
stratum_bounds o = (omega arith, omega arith)

pub stratum_other : (o : BinaryOperator) → binary_stratum o ≡ 22 → ⊥
stratum_other binaries.Power h = omega arith
stratum_other o h = omega arith

pub tighter_bounds : (o : BinaryOperator) → (5 ≤ tighter (binary_stratum o)) × (tighter (binary_stratum o) ≤ 29)
tighter_bounds binaries.Power = (omega arith, omega arith)
tighter_bounds o = (omega arith, omega arith)

pub right_bounds : (o : BinaryOperator) → (5 ≤ right_side (fixity o) (binary_stratum o)) × (right_side (fixity o) (binary_stratum o) ≤ 29)
right_bounds binaries.Power = (omega arith, omega arith)
right_bounds o = (omega arith, omega arith)

abbrev stratum_fixity : ℕ → Fixity
stratum_fixity j = if (j == 6) then fixities.Right else (if (j == 14) then fixities.Single else (if (j == 15) then fixities.Single else (if (j == 21) then fixities.Right else fixities.Left)))

fixity_is : (o : BinaryOperator) → fixity o ≡ stratum_fixity (binary_stratum o)
fixity_is binaries.Power = refl
fixity_is o = refl

-- operators of one stratum have one fixity
pub same_fixity : (o u : BinaryOperator) → binary_stratum o ≡ binary_stratum u → fixity o ≡ fixity u
same_fixity o u e = fixity_is o ∙ (ap stratum_fixity e ∙ sym (fixity_is u))

-- ---- what goes on

question_least : (next : TokenKind) → 22 ≤ joins kinds.Question next
question_least kinds.Colon = omega arith
question_least next = omega arith

none_joins : (kind next : TokenKind) → binary_at kind next ≡ None → joins kind next ≡ joins_assigned (assignment_at kind next) (joins_alone kind next)
none_joins kind next h = ap (λ x. joins_operated x (joins_assigned (assignment_at kind next) (joins_alone kind next))) h

alone_joins : (kind next : TokenKind) → 6 ≤ joins_assigned (assignment_at kind next) (joins_alone kind next)
    → joins_assigned (assignment_at kind next) (joins_alone kind next) ≤ 29 → kind ≡ kinds.Question
alone_joins kinds.Question next lo hi = refl
alone_joins kinds.DoubleColon next lo hi = let d = double_colon_bounds next in absurd (omega arith)
alone_joins kind next lo hi = absurd (omega arith)

-- where no operator stands, only `?` goes on with an operand
pub is_question : (kind next : TokenKind) → binary_at kind next ≡ None → 6 ≤ joins kind next → joins kind next ≤ 29 → kind ≡ kinds.Question
is_question kind next h lo hi = let e = none_joins kind next h in alone_joins kind next (omega arith) (omega arith)

question_none : (next : TokenKind) → question next ≡ None → joins kinds.Question next ≡ 22
question_none next h = ap (λ x. joins_operated x 22) h

pub question_stratum : (kind next : TokenKind) → kind ≡ kinds.Question → binary_at kind next ≡ None → joins kind next ≡ 22
question_stratum kind next e h =
    let q : binary_at kinds.Question next ≡ None = subst (λ k. binary_at k next ≡ None) e h in
    subst (λ k. joins k next ≡ 22) (sym e) (question_none next q)

-- an assignment alone goes on in stratum 5
pub no_assignment : (kind next : TokenKind) → assignment_at kind next ≡ None → joins kind next ≡ 5 → ⊥
no_assignment kinds.Question next h e = let q = question_least next in omega arith
no_assignment kinds.DoubleColon next h e = let d = double_colon_bounds next in omega arith
no_assignment kind next h e = first_of (omega arith, cc)

-- what cannot be called goes on in no stratum 1
pub no_call : (kind next : TokenKind) → (kind ≡ kinds.LeftParenthesis → ⊥) → 1 ≤ joins kind next → 1 < joins kind next
no_call kinds.LeftParenthesis next h le = absurd (h refl)
no_call kinds.Question next h le = let q = question_least next in omega arith
no_call kinds.DoubleColon next h le = let d = double_colon_bounds next in omega (arith, d.0)
no_call kind next h le = omega arith

-- only `fn` and `function` go on in stratum 0
pub no_function : (kind next : TokenKind) → (kind ≡ kinds.Fn → ⊥) → (kind ≡ kinds.Function → ⊥) → 0 < joins kind next
no_function kinds.Fn next h g = absurd (h refl)
no_function kinds.Function next h g = absurd (g refl)
no_function kinds.Question next h g = let q = question_least next in omega arith
no_function kinds.DoubleColon next h g = let d = double_colon_bounds next in omega arith
no_function kind next h g = omega arith

double_other : (next : TokenKind) → (next ≡ kinds.Variable → ⊥) → 3 < double_colon next
double_other kinds.Variable h = absurd (h refl)
double_other next h = omega arith

-- only `::` before a variable goes on in stratum 2
pub no_scope : (kind next : TokenKind) → (kind ≡ kinds.DoubleColon → next ≡ kinds.Variable → ⊥) → 2 ≤ joins kind next → 2 < joins kind next
no_scope kinds.Question next h le = let q = question_least next in omega arith
no_scope kinds.DoubleColon next h le = let d = double_other next (h refl) in omega arith
no_scope kind next h le = omega arith

-- what is no part of the class of a `new` goes on in neither stratum 2 nor 3
pub no_class_part : (kind next : TokenKind) → (kind ≡ kinds.LeftBracket → ⊥) → (kind ≡ kinds.Arrow → ⊥) → (kind ≡ kinds.NullsafeArrow → ⊥)
    → (kind ≡ kinds.DoubleColon → next ≡ kinds.Variable → ⊥)
    → 2 ≤ joins kind next → 3 < joins kind next
no_class_part kinds.LeftBracket next h i j l le = absurd (h refl)
no_class_part kinds.Arrow next h i j l le = absurd (i refl)
no_class_part kinds.NullsafeArrow next h i j l le = absurd (j refl)
no_class_part kinds.Question next h i j l le = let q = question_least next in omega arith
no_class_part kinds.DoubleColon next h i j l le = let d = double_other next (l refl) in omega arith
no_class_part kind next h i j l le = omega arith

-- what is not appended goes on behind stratum 4, if at all
pub no_suffix : (kind next : TokenKind) → (kind ≡ kinds.LeftParenthesis → ⊥) → (kind ≡ kinds.DoubleColon → ⊥) → (kind ≡ kinds.LeftBracket → ⊥)
    → (kind ≡ kinds.Arrow → ⊥) → (kind ≡ kinds.NullsafeArrow → ⊥)
    → (kind ≡ kinds.Increment → ⊥) → (kind ≡ kinds.Decrement → ⊥) → 0 < joins kind next → 4 < joins kind next
no_suffix kinds.LeftParenthesis next a b c d e f g le = absurd (a refl)
no_suffix kinds.DoubleColon next a b c d e f g le = absurd (b refl)
no_suffix kinds.LeftBracket next a b c d e f g le = absurd (c refl)
no_suffix kinds.Arrow next a b c d e f g le = absurd (d refl)
no_suffix kinds.NullsafeArrow next a b c d e f g le = absurd (e refl)
no_suffix kinds.Increment next a b c d e f g le = absurd (f refl)
no_suffix kinds.Decrement next a b c d e f g le = absurd (g refl)
no_suffix kinds.Question next a b c d e f g le = let q = question_least next in omega arith
no_suffix kind next a b c d e f g le = omega arith
