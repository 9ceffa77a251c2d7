-- What is appended, the classes of `new`, the parts of a text and further operators are read as they stand.
use Rattle.std.proofs.Common.{◌≡◌, ℕ, ◌+◌, ◌≤◌, ◌<◌, Bool, true, false, List, [], ◌∷◌, length, Option, Some, None, refl, sym, ap, ◌∙◌, arith}
use Rattle.std.specs.Prelude.{IsTrue}
use Rattle.std.proofs.lemmas.Bool.{ne_eqb, eq-eqb}
use Rattle.stan_model_grammar.specs.declared.operators.BinaryOperator.{BinaryOperator}
use Rattle.stan_model_grammar.specs.declared.token.Token.{Token}
use Rattle.stan_model_grammar.specs.declared.token.TokenKind.{TokenKind}
use Rattle.stan_model_grammar.specs.declared.token.TokenKind.TheVariants as kinds
use Rattle.stan_model_grammar.specs.Strata.{kind_at, joins, double_colon, binary_stratum, tighter, names_class, names_member, is_part}
use Rattle.stan_model_grammar.specs.Trees.{Tree, Items, Arguments, no_arguments, arguments, NamedClass, VariableClass, ScopedClass, ComputedClass, MemberName, NamedMember, ComputedMember, Steps, no_step, step, Step, Push, Index, Property, Scoped, Call, Increment, Decrement, Operation, Part, Inserted}
use Rattle.stan_model_grammar.specs.Expressions.{StepSort, suffix, class_suffix, part, operation, IsSuffix, IsAppended, IsPart, IsOperation, takes_arguments, is_scoped, arrow, Is, Stands, Operates, MayBeCalled}
use Rattle.stan_model_grammar.specs.TreeLists.{Operated, steps, operation_steps}
use Rattle.stan_expr_rules.specs.Places.{same_kind, after, operator_at}
use Rattle.stan_expr_rules.specs.Parse.{Read, Turn, enclosed, fenced, argument_at, some_arguments, may_be_called, called, computed_member, named_member, member, property, scoped_with, scoped, class_scoped, index, bracket, call, suffix_by, suffix_at, suffixes, class_suffix_by, class_suffix_at, class_suffixes, variable_class, scoped_class, computed_class, behind_class, named_class, class_reference, inserted, part_by, part_at, parts, operation_with, operation_by, operation_at, operations}
use Rattle.stan_expr_rules.proofs.Greedy.{J, Near}
use Rattle.stan_expr_rules.proofs.InsideLemmas.{stands_kind}
use Rattle.stan_expr_greedy.proofs.Reading.{after_at, after_is, after_not, after_to, same_at, same_not}
use Rattle.stan_expr_greedy.proofs.Computes.{apart, operator_is, operator_stratum, Turns}
use Rattle.stan_expr_greedy.proofs.Begins.{begins, clash}
use Rattle.stan_expr_greedy.proofs.CompleteParts.{all_reads}
use Rattle.stan_expr_greedy.proofs.CompleteItems.{operated, Gives, Taken, AllTaken}
use Rattle.stan_expr_rules.proofs.Tables.{double_colon_bounds, scoped_variable}

abbrev pub step_list : Steps → List Step
step_list no_step = []
step_list (step x xs) = x ∷ step_list xs

pub steps_same : (ss : Steps) → steps (step_list ss) ≡ ss
steps_same no_step = refl
steps_same (step x xs) = ap (λ r. step x r) (steps_same xs)

abbrev pub operation_list : Steps → List Operated
operation_list no_step = []
operation_list (step (Operation sign o e) xs) = operated sign o e ∷ operation_list xs
operation_list (step x xs) = operation_list xs

module _ (ts : List Token) (b : Bool → ℕ → ℕ → Read Tree) where
  -- ---- arguments and members

  no_parenthesis : (at : ℕ) → Near ts 1 1 at → Is ts at kinds.LeftParenthesis → ⊥
  no_parenthesis at near k =
      let j : J ts at ≡ 1 = rw k refl in
      let far = near (omega arith) in
      omega arith

  not_called : (at to : ℕ) → at ≡ to → Near ts 1 1 to → may_be_called ts b at ≡ Some (no_arguments, to)
  unfolding may_be_called
  not_called at to h near = rw (h, after_not ts kinds.LeftParenthesis to (no_parenthesis to near)) refl

  is_called : (es : Items) (at to : ℕ) → Is ts at kinds.LeftParenthesis → fenced ts b (argument_at ts b) kinds.LeftParenthesis kinds.RightParenthesis at ≡ Some (es, to) → may_be_called ts b at ≡ Some (arguments es, to)
  unfolding may_be_called some_arguments
  is_called es at to k h = rw (after_at ts kinds.LeftParenthesis at (λ e. cc) k, h) refl

  pub no_arguments_read : (callable : Bool) (at to : ℕ) → MayBeCalled ts (Near ts) callable no_arguments at to → called ts b callable at ≡ Some (no_arguments, to)
  unfolding called
  no_arguments_read true at to h = not_called at to h.0 (h.1 refl)
  no_arguments_read false at to h = rw h.0 refl

  pub arguments_read : (callable : Bool) (es : Items) (at to : ℕ) → callable ≡ true → Is ts at kinds.LeftParenthesis → fenced ts b (argument_at ts b) kinds.LeftParenthesis kinds.RightParenthesis at ≡ Some (es, to)
      → called ts b callable at ≡ Some (arguments es, to)
  unfolding called
  arguments_read true es at to c k h = is_called es at to k h
  arguments_read false es at to c k h = clash _ c

  pub called_is : (es : Arguments) (at to : ℕ) → called ts b true at ≡ Some (es, to) → may_be_called ts b at ≡ Some (es, to)
  unfolding called
  called_is es at to h = h

  pub named_member_reads : (t : Token) (at to : ℕ) → Stands ts at t → IsTrue (names_member t.kind) → to ≡ at + 1 → member ts b at ≡ Some (NamedMember t, to)
  unfolding member named_member
  named_member_reads t at to s names e =
      let other : kind_at ts at ≡ kinds.LeftBrace → ⊥ = λ q. apart names_member t.kind kinds.LeftBrace names refl (sym (stands_kind ts at t s) ∙ q) in
      rw (after_not ts kinds.LeftBrace at other, s, names, e) refl

  pub computed_member_reads : (e : Tree) (at to : ℕ) → Is ts at kinds.LeftBrace → enclosed ts b kinds.LeftBrace kinds.RightBrace at ≡ Some (e, to) → member ts b at ≡ Some (ComputedMember e, to)
  unfolding member computed_member
  computed_member_reads e at to k h = rw (after_at ts kinds.LeftBrace at (λ e. cc) k, h) refl

  -- ---- what is appended

  push_bracket : (at to : ℕ) → Is ts (at + 1) kinds.RightBracket → to ≡ at + 2 → bracket ts b at ≡ Some (Push, to)
  unfolding bracket
  push_bracket at to k e = rw (after_to ts kinds.RightBracket (at + 1) to (λ e. cc) k (omega arith)) refl

  index_bracket : (e : Tree) (at to : ℕ) → begins (kind_at ts (at + 1)) ≡ true → enclosed ts b kinds.LeftBracket kinds.RightBracket at ≡ Some (e, to) → bracket ts b at ≡ Some (Index e, to)
  unfolding bracket index
  index_bracket e at to o h = rw (after_not ts kinds.RightBracket (at + 1) (apart begins (kind_at ts (at + 1)) kinds.RightBracket o refl), h) refl

  bracket_taken : (sort : StepSort) (x : Step) (at to : ℕ) → IsSuffix sort → Is ts at kinds.LeftBracket → bracket ts b at ≡ Some (x, to) → Taken ts b sort x at to
  unfolding suffix_at class_suffix_at
  bracket_taken suffix x at to s k h = rw (k, h) refl
  bracket_taken class_suffix x at to s k h = rw (k, h) refl
  bracket_taken sort x at to s k h = absurd s

  pub push_taken : (sort : StepSort) (at to : ℕ) → IsSuffix sort → Is ts at kinds.LeftBracket → Is ts (at + 1) kinds.RightBracket → to ≡ at + 2 → Taken ts b sort Push at to
  push_taken sort at to s k r e = bracket_taken sort Push at to s k (push_bracket at to r e)

  pub index_taken : (sort : StepSort) (e : Tree) (at to : ℕ) → IsSuffix sort → Is ts at kinds.LeftBracket → begins (kind_at ts (at + 1)) ≡ true → enclosed ts b kinds.LeftBracket kinds.RightBracket at ≡ Some (e, to) → Taken ts b sort (Index e) at to
  index_taken sort e at to s k o h = bracket_taken sort (Index e) at to s k (index_bracket e at to o h)

  property_reads : (callable nullsafe : Bool) (name : MemberName) (es : Arguments) (at m to : ℕ) → member ts b at ≡ Some (name, m) → called ts b callable m ≡ Some (es, to) → property ts b callable nullsafe at ≡ Some (Property nullsafe name es, to)
  unfolding property
  property_reads callable nullsafe name es at m to h g = rw (h, g) refl

  pub property_taken : (sort : StepSort) (nullsafe : Bool) (name : MemberName) (es : Arguments) (at m to : ℕ) → IsSuffix sort → Is ts at (arrow nullsafe) → member ts b (at + 1) ≡ Some (name, m) → called ts b (takes_arguments sort) m ≡ Some (es, to)
      → Taken ts b sort (Property nullsafe name es) at to
  unfolding suffix_at class_suffix_at
  property_taken suffix true name es at m to s k h g = rw (k, property_reads true true name es (at + 1) m to h g) refl
  property_taken suffix false name es at m to s k h g = rw (k, property_reads true false name es (at + 1) m to h g) refl
  property_taken class_suffix true name es at m to s k h g = rw (k, property_reads false true name es (at + 1) m to h g) refl
  property_taken class_suffix false name es at m to s k h g = rw (k, property_reads false false name es (at + 1) m to h g) refl
  property_taken sort nullsafe name es at m to s k h g = absurd s

  scoped_with_reads : (callable : Bool) (t : Token) (es : Arguments) (at to : ℕ) → called ts b callable at ≡ Some (es, to) → scoped_with ts b callable t at ≡ Some (Scoped t es, to)
  unfolding scoped_with
  scoped_with_reads callable t es at to h = rw h refl

  pub scoped_taken : (sort : StepSort) (t : Token) (es : Arguments) (at to : ℕ) → IsTrue (is_scoped sort t.kind) → Is ts at kinds.DoubleColon → Stands ts (at + 1) t → called ts b (takes_arguments sort) (at + 2) ≡ Some (es, to) → Taken ts b sort (Scoped t es) at to
  unfolding suffix_at class_suffix_at scoped class_scoped
  scoped_taken suffix t es at to names k s h =
      let two : at + 1 + 1 ≡ at + 2 = omega arith in
      rw (k, s, names, two, scoped_with_reads true t es (at + 2) to h) refl
  scoped_taken class_suffix t es at to names k s h =
      let v = after_to ts kinds.Variable (at + 1) (at + 2) (λ e. cc) (stands_kind ts (at + 1) t s ∙ scoped_variable t.kind names) (omega arith) in
      rw (k, v, s, scoped_with_reads false t es (at + 2) to h) refl
  scoped_taken sort t es at to names k s h = clash _ names

  pub call_taken : (sort : StepSort) (es : Items) (at to : ℕ) → IsAppended sort → Is ts at kinds.LeftParenthesis → fenced ts b (argument_at ts b) kinds.LeftParenthesis kinds.RightParenthesis at ≡ Some (es, to) → Taken ts b sort (Call es) at to
  unfolding suffix_at call
  call_taken suffix es at to s k h = rw (k, h) refl
  call_taken sort es at to s k h = absurd s

  pub increment_taken : (sort : StepSort) (at to : ℕ) → IsAppended sort → Is ts at kinds.Increment → to ≡ at + 1 → Taken ts b sort Increment at to
  unfolding suffix_at
  increment_taken suffix at to s k e = rw (k, e) refl
  increment_taken sort at to s k e = absurd s

  pub decrement_taken : (sort : StepSort) (at to : ℕ) → IsAppended sort → Is ts at kinds.Decrement → to ≡ at + 1 → Taken ts b sort Decrement at to
  unfolding suffix_at
  decrement_taken suffix at to s k e = rw (k, e) refl
  decrement_taken sort at to s k e = absurd s

  suffix_none_by : (kind next : TokenKind) (at : ℕ) → (1 ≤ joins kind next → 4 < joins kind next) → suffix_by ts b kind at ≡ Some None
  suffix_none_by kinds.LeftBracket next at near = absurd (omega (arith, near (omega arith)))
  suffix_none_by kinds.Arrow next at near = absurd (omega (arith, near (omega arith)))
  suffix_none_by kinds.NullsafeArrow next at near = absurd (omega (arith, near (omega arith)))
  suffix_none_by kinds.DoubleColon next at near = let d = double_colon_bounds next in let far = near (omega arith) in absurd (omega (arith, far, d.1))
  suffix_none_by kinds.LeftParenthesis next at near = absurd (omega (arith, near (omega arith)))
  suffix_none_by kinds.Increment next at near = absurd (omega (arith, near (omega arith)))
  suffix_none_by kinds.Decrement next at near = absurd (omega (arith, near (omega arith)))
  suffix_none_by kind next at near = refl

  suffix_none : (at : ℕ) → Near ts 1 4 at → suffix_at ts b at ≡ Some None
  unfolding suffix_at
  suffix_none at near = suffix_none_by (kind_at ts at) (kind_at ts (at + 1)) at near

  double_colon_of : (next : TokenKind) → (2 ≤ double_colon next → 3 < double_colon next) → next ≡ kinds.Variable → ⊥
  double_colon_of kinds.Variable near e = omega (arith, near (omega arith))
  double_colon_of next near e = cc

  class_suffix_none_by : (kind : TokenKind) (at : ℕ) → (2 ≤ joins kind (kind_at ts (at + 1)) → 3 < joins kind (kind_at ts (at + 1))) → class_suffix_by ts b kind at ≡ Some None
  unfolding class_scoped
  class_suffix_none_by kinds.LeftBracket at near = absurd (omega (arith, near (omega arith)))
  class_suffix_none_by kinds.Arrow at near = absurd (omega (arith, near (omega arith)))
  class_suffix_none_by kinds.NullsafeArrow at near = absurd (omega (arith, near (omega arith)))
  class_suffix_none_by kinds.DoubleColon at near = rw (after_not ts kinds.Variable (at + 1) (double_colon_of (kind_at ts (at + 1)) near)) refl
  class_suffix_none_by kind at near = refl

  class_suffix_none : (at : ℕ) → Near ts 2 3 at → class_suffix_at ts b at ≡ Some None
  unfolding class_suffix_at
  class_suffix_none at near = class_suffix_none_by (kind_at ts at) at near

  -- ---- repeated parts

  turns_of : (turn : ℕ → Turn Step) (sort : StepSort) → ((x : Step) (at to : ℕ) → Taken ts b sort x at to → turn at ≡ Some (Some (x, to))) → (ss : Steps) (at to : ℕ) → AllTaken ts b sort ss at to → turn to ≡ Some None → Turns turn (step_list ss) at to
  turns_of turn sort same no_step at to h none = (h, none)
  turns_of turn sort same (step x xs) at to h none = (h.0, h.1, same x at h.0 h.2, turns_of turn sort same xs h.0 to h.3 none)

  pub suffixes_read : (ss : Steps) (at to : ℕ) → AllTaken ts b suffix ss at to → Near ts 1 4 to → to ≤ length ts → suffixes ts b at ≡ Some (step_list ss, to)
  unfolding suffixes
  suffixes_read ss at to h near inside = all_reads ts (suffix_at ts b) (step_list ss) at to inside (turns_of (suffix_at ts b) suffix (λ x at to g. g) ss at to h (suffix_none to near))

  class_suffixes_read : (ss : Steps) (at to : ℕ) → AllTaken ts b class_suffix ss at to → Near ts 2 3 to → to ≤ length ts → class_suffixes ts b at ≡ Some (step_list ss, to)
  unfolding class_suffixes
  class_suffixes_read ss at to h near inside = all_reads ts (class_suffix_at ts b) (step_list ss) at to inside (turns_of (class_suffix_at ts b) class_suffix (λ x at to g. g) ss at to h (class_suffix_none to near))

  -- ---- the class of a `new`

  variable_is_first : (t : Token) (at : ℕ) → Stands ts at t → Is ts at kinds.Variable → same_kind t.kind kinds.Variable ≡ true
  variable_is_first t at s k = same_at t.kind kinds.Variable (sym (stands_kind ts at t s) ∙ k)

  class_is_no_variable : (t : Token) → IsTrue (names_class t.kind) → same_kind t.kind kinds.Variable ≡ false
  class_is_no_variable t names = same_not t.kind kinds.Variable (apart names_class t.kind kinds.Variable names refl)

  pub variable_class_reads : (t : Token) (ss : Steps) (at to : ℕ) → Stands ts at t → Is ts at kinds.Variable → AllTaken ts b class_suffix ss (at + 1) to → Near ts 2 3 to → to ≤ length ts → class_reference ts b at ≡ Some (VariableClass t ss, to)
  unfolding class_reference variable_class
  variable_class_reads t ss at to s k h near inside = rw (s, variable_is_first t at s k, class_suffixes_read ss (at + 1) to h near inside, steps_same ss) refl

  no_scope : (at : ℕ) → Near ts 2 2 at → Is ts at kinds.DoubleColon → kind_at ts (at + 1) ≡ kinds.Variable → ⊥
  no_scope at near k v =
      let j : J ts at ≡ 2 = rw (k, v) refl in
      let far = near (omega arith) in
      omega arith

  named_class_alone : (t : Token) (at : ℕ) (o : Option ℕ) → after ts kinds.DoubleColon at ≡ o → Near ts 2 2 at → named_class ts b t at ≡ Some (NamedClass t, at)
  unfolding named_class behind_class
  named_class_alone t at None e near = rw e refl
  named_class_alone t at (Some x) e near = rw (e, after_not ts kinds.Variable (at + 1) (no_scope at near (after_is ts kinds.DoubleColon at x e).0)) refl

  pub named_class_reads : (t : Token) (at to : ℕ) → Stands ts at t → IsTrue (names_class t.kind) → to ≡ at + 1 → Near ts 2 2 to → class_reference ts b at ≡ Some (NamedClass t, to)
  unfolding class_reference
  named_class_reads t at to s names e near = rw (s, class_is_no_variable t names, names, ← e) (named_class_alone t to (after ts kinds.DoubleColon to) refl near)

  pub scoped_class_reads : (t u : Token) (ss : Steps) (at to : ℕ) → Stands ts at t → IsTrue (names_class t.kind) → Is ts (at + 1) kinds.DoubleColon → Stands ts (at + 2) u → Is ts (at + 2) kinds.Variable
      → AllTaken ts b class_suffix ss (at + 3) to → Near ts 2 3 to → to ≤ length ts → class_reference ts b at ≡ Some (ScopedClass t u ss, to)
  unfolding class_reference named_class behind_class scoped_class
  scoped_class_reads t u ss at to s names k v w h near inside =
      let two : at + 1 + 1 ≡ at + 2 = omega arith in
      rw (s, class_is_no_variable t names, names, after_at ts kinds.DoubleColon (at + 1) (λ e. cc) k, two, after_to ts kinds.Variable (at + 2) (at + 3) (λ e. cc) w (omega arith), v, class_suffixes_read ss (at + 3) to h near inside, steps_same ss) refl

  pub computed_class_reads : (t : Token) (e : Tree) (at to : ℕ) → Stands ts at t → Is ts at kinds.LeftParenthesis → enclosed ts b kinds.LeftParenthesis kinds.RightParenthesis at ≡ Some (e, to) → class_reference ts b at ≡ Some (ComputedClass e, to)
  unfolding class_reference computed_class
  computed_class_reads t e at to s k h =
      let here : t.kind ≡ kinds.LeftParenthesis = sym (stands_kind ts at t s) ∙ k in
      let no_variable : same_kind t.kind kinds.Variable ≡ false = same_not t.kind kinds.Variable (λ q. cc) in
      let no_name : names_class t.kind ≡ false = ap names_class here in
      rw (s, no_variable, no_name, h) refl

  -- ---- parts of a text

  pub part_taken : (sort : StepSort) (t : Token) (at to : ℕ) → IsPart sort → Stands ts at t → IsTrue (is_part t.kind) → to ≡ at + 1 → Taken ts b sort (Part t) at to
  unfolding part_at part_by
  part_taken part t at to p s is e = rw (s, is, e) refl
  part_taken sort t at to p s is e = absurd p

  part_insertion : (t : Token) (e : Tree) (at to : ℕ) → Stands ts at t → Is ts at kinds.InsertionStart → enclosed ts b kinds.InsertionStart kinds.InsertionEnd at ≡ Some (e, to) → part_at ts b at ≡ Some (Some (Inserted e, to))
  unfolding part_at part_by inserted
  part_insertion t e at to s k h =
      let here : t.kind ≡ kinds.InsertionStart = sym (stands_kind ts at t s) ∙ k in
      let other : is_part t.kind ≡ false = ap is_part here in
      rw (s, other, same_at t.kind kinds.InsertionStart here, h) refl

  pub inserted_taken : (sort : StepSort) (t : Token) (e : Tree) (at to : ℕ) → IsPart sort → Stands ts at t → Is ts at kinds.InsertionStart → enclosed ts b kinds.InsertionStart kinds.InsertionEnd at ≡ Some (e, to) → Taken ts b sort (Inserted e) at to
  inserted_taken part t e at to p s k h = part_insertion t e at to s k h
  inserted_taken sort t e at to p s k h = absurd p

  part_none : (t : Token) (at : ℕ) → Stands ts at t → Is ts at kinds.TextEnd → part_at ts b at ≡ Some None
  unfolding part_at part_by
  part_none t at s k =
      let here : t.kind ≡ kinds.TextEnd = sym (stands_kind ts at t s) ∙ k in
      let other : is_part t.kind ≡ false = ap is_part here in
      rw (s, other, same_not t.kind kinds.InsertionStart (λ q. cc)) refl

  pub parts_read : (t : Token) (ss : Steps) (at to : ℕ) → AllTaken ts b part ss at to → Stands ts to t → Is ts to kinds.TextEnd → to ≤ length ts → parts ts b at ≡ Some (step_list ss, to)
  unfolding parts
  parts_read t ss at to h s k inside = all_reads ts (part_at ts b) (step_list ss) at to inside (turns_of (part_at ts b) part (λ x at to g. g) ss at to h (part_none t to s k))

  -- ---- further operators

  further_operation : (j : ℕ) (sign : Token) (o : BinaryOperator) (e : Tree) (at m to : ℕ) → binary_stratum o ≡ j → Operates ts sign o at m → Gives ts b false (tighter (binary_stratum o)) e m to
      → operation_at ts b j at ≡ Some (Some (operated sign o e, to))
  unfolding operation_at operation_with
  further_operation j sign o e at m to q h d = rw (operator_is ts sign o at m h, eq-eqb (binary_stratum o) j q, h.2, ← h.1, d) refl

  pub operation_taken : (sort : StepSort) (sign : Token) (o : BinaryOperator) (e : Tree) (at m to : ℕ) → IsOperation sort o → Operates ts sign o at m → Gives ts b false (tighter (binary_stratum o)) e m to → Taken ts b sort (Operation sign o e) at to
  operation_taken (operation j) sign o e at m to i h d = (i.0, further_operation j sign o e at m to i.0 h d)
  operation_taken sort sign o e at m to i h d = absurd i

  no_operation_by : (j at : ℕ) (o : Option BinaryOperator) → ((x : BinaryOperator) → o ≡ Some x → binary_stratum x ≡ j → ⊥) → operation_by ts b j o at ≡ Some None
  no_operation_by j at None other = refl
  no_operation_by j at (Some x) other = rw (ne_eqb (binary_stratum x) j (other x refl)) refl

  no_operation : (j at : ℕ) → (J ts at ≡ j → ⊥) → operation_at ts b j at ≡ Some None
  unfolding operation_at
  no_operation j at h = no_operation_by j at (operator_at ts at) (λ x e q. h (operator_stratum ts x at e ∙ q))

  operation_turns : (j : ℕ) (ss : Steps) (at to : ℕ) → AllTaken ts b (operation j) ss at to → operation_at ts b j to ≡ Some None → Turns (operation_at ts b j) (operation_list ss) at to
  operation_turns j no_step at to h none = (h, none)
  operation_turns j (step (Operation sign o e) xs) at to h none = (h.0, h.1, h.2.1, operation_turns j xs h.0 to h.3 none)
  operation_turns j (step x xs) at to h none = absurd h.2

  pub operations_same : (j : ℕ) (ss : Steps) (at to : ℕ) → AllTaken ts b (operation j) ss at to → operation_steps (operation_list ss) ≡ ss
  operations_same j no_step at to h = refl
  operations_same j (step (Operation sign o e) xs) at to h = ap (λ r. step (Operation sign o e) r) (operations_same j xs h.0 to h.3)
  operations_same j (step x xs) at to h = absurd h.2

  pub operations_read : (j : ℕ) (ss : Steps) (at to : ℕ) → AllTaken ts b (operation j) ss at to → (J ts to ≡ j → ⊥) → to ≤ length ts → operations ts b j at ≡ Some (operation_list ss, to)
  unfolding operations
  operations_read j ss at to h other inside = all_reads ts (operation_at ts b j) (operation_list ss) at to inside (operation_turns j ss at to h (no_operation j to other))
