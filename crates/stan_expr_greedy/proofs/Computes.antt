-- What the steps of the parser compute where a token stands, or does not.
use Rattle.std.proofs.Common.{◌≡◌, ℕ, zero, suc, ◌+◌, ◌≤◌, ◌<◌, Bool, true, false, List, [], ◌∷◌, ◌++◌, Some, None, refl, sym, ap, ◌∙◌, append_assoc, arith}
use Rattle.std.proofs.lemmas.List.{append-nil}
use Rattle.stan_model_grammar.specs.declared.operators.AssignmentOperator.{AssignmentOperator}
use Rattle.stan_model_grammar.specs.declared.operators.BinaryOperator.{BinaryOperator}
use Rattle.stan_model_grammar.specs.declared.token.Token.{Token}
use Rattle.stan_model_grammar.specs.declared.token.TokenKind.{TokenKind}
use Rattle.stan_model_grammar.specs.declared.token.TokenKind.TheVariants as kinds
use Rattle.stan_model_grammar.specs.Strata.{kind_at, question, binary_stratum, assignment_at}
use Rattle.stan_model_grammar.specs.Expressions.{Is, May, Operates, Assigns}
use Rattle.stan_expr_rules.specs.Places.{after, may, operator_at, assigning_at}
use Rattle.stan_expr_rules.specs.Parse.{Turn, many}
use Rattle.stan_expr_rules.proofs.Greedy.{J}
use Rattle.stan_expr_greedy.proofs.Reading.{after_to, after_not}
use Rattle.stan_expr_rules.proofs.Choices.{none_of}
use Rattle.stan_expr_rules.proofs.Tables.{assignment_joins, operator_joins}

-- ---- truth values and options

-- a test tells two kinds apart
pub apart : {A : Type 0} (test : A → Bool) (a b : A) → test a ≡ true → test b ≡ false → a ≡ b → ⊥
apart test a b has lacks e = cc (has, lacks, ap test e)

-- ---- tokens that stand there, and those that do not

-- where another token stands
pub after_other : (ts : List Token) (kind there : TokenKind) (at : ℕ) → kind_at ts at ≡ there → (there ≡ kind → ⊥) → after ts kind at ≡ None
after_other ts kind there at k h = after_not ts kind at (λ e. h (sym k ∙ e))

pub may_at : (ts : List Token) (kind : TokenKind) (at to : ℕ) → (kinds.End ≡ kind → ⊥) → kind_at ts at ≡ kind → to ≡ at + 1 → may ts kind at ≡ (true, to)
unfolding may
may_at ts kind at to some k e = rw (after_to ts kind at to some k e) refl

pub may_not : (ts : List Token) (kind : TokenKind) (at : ℕ) → (kind_at ts at ≡ kind → ⊥) → may ts kind at ≡ (false, at)
unfolding may
may_not ts kind at h = rw (after_not ts kind at h) refl

-- a token that may stand
pub may_reads : (ts : List Token) (stands : Bool) (kind : TokenKind) (at to : ℕ) → (kinds.End ≡ kind → ⊥) → May ts stands kind at to → (stands ≡ false → kind_at ts to ≡ kind → ⊥) → may ts kind at ≡ (stands, to)
may_reads ts true kind at to some h other = may_at ts kind at to some h.0 h.1
may_reads ts false kind at to some h other = rw h (may_not ts kind to (other refl))

-- ---- operators

pub operates_joins : (ts : List Token) (sign : Token) (o : BinaryOperator) (at to : ℕ) → Operates ts sign o at to → J ts at ≡ binary_stratum o
operates_joins ts sign o at to h = operator_joins (kind_at ts at) (kind_at ts (at + 1)) o h.0

pub operator_is : (ts : List Token) (sign : Token) (o : BinaryOperator) (at to : ℕ) → Operates ts sign o at to → operator_at ts at ≡ Some o
unfolding operator_at
operator_is ts sign o at to h = h.0

pub operator_stratum : (ts : List Token) (o : BinaryOperator) (at : ℕ) → operator_at ts at ≡ Some o → J ts at ≡ binary_stratum o
unfolding operator_at
operator_stratum ts o at h = operator_joins (kind_at ts at) (kind_at ts (at + 1)) o h

question_not : (next : TokenKind) → (next ≡ kinds.Colon → ⊥) → question next ≡ None
question_not kinds.Colon h = absurd (h refl)
question_not next h = refl

-- `?` without `:` behind it
pub lone_question_joins : (ts : List Token) (at : ℕ) → Is ts at kinds.Question → (kind_at ts (at + 1) ≡ kinds.Colon → ⊥) → J ts at ≡ 22
lone_question_joins ts at k h = rw (k, question_not (kind_at ts (at + 1)) h) refl

pub question_is_alone : (ts : List Token) (at : ℕ) → Is ts at kinds.Question → (kind_at ts (at + 1) ≡ kinds.Colon → ⊥) → operator_at ts at ≡ None
unfolding operator_at
question_is_alone ts at k h = rw (k, question_not (kind_at ts (at + 1)) h) refl

-- ---- assignments

pub assigning_not : (ts : List Token) (at : ℕ) → (J ts at ≡ 5 → ⊥) → assigning_at ts at ≡ None
unfolding assigning_at
assigning_not ts at h = none_of (assignment_at (kind_at ts at) (kind_at ts (at + 1))) (λ o e. h (assignment_joins (kind_at ts at) (kind_at ts (at + 1)) o e))

pub assigning_is : (ts : List Token) (o : AssignmentOperator) (at to : ℕ) → Assigns ts o at to → assigning_at ts at ≡ Some o
unfolding assigning_at
assigning_is ts o at to h = h.0

-- ---- loops

-- Turns that take these items, one token at least for each, and find no further one.
abbrev pub Turns : {A : Type 0} → (ℕ → Turn A) → List A → ℕ → ℕ → Type 0
Turns turn [] at to = (at ≡ to) × (turn to ≡ Some None)
Turns turn (x ∷ xs) at to = (b : ℕ) × (at < b) × (turn at ≡ Some (Some (x, b))) × Turns turn xs b to

turns_rise : {A : Type 0} (turn : ℕ → Turn A) (xs : List A) (at to : ℕ) → Turns turn xs at to → at ≤ to
turns_rise turn [] at to h = omega (arith, h.0)
turns_rise turn (x ∷ xs) at to h = omega (arith, h.1, turns_rise turn xs h.0 to h.3)

pub many_reads : {A : Type 0} (turn : ℕ → Turn A) (xs : List A) (n : ℕ) (found : List A) (at to : ℕ) → to < n + at → Turns turn xs at to → many turn n found at ≡ Some (found ++ xs, to)
many_reads turn xs zero found at to fuel h = absurd (omega (arith, turns_rise turn xs at to h))
many_reads turn [] (suc n) found at to fuel h = let e : turn at ≡ Some None = rw h.0 h.1 in rw (e, append-nil found, ← h.0) refl
many_reads turn (x ∷ xs) (suc n) found at to fuel h =
    rw h.2 (many_reads turn xs n (found ++ x ∷ []) h.0 to (omega (arith, h.1)) h.3 ∙ rw append_assoc refl)
