-- The claim of each production follows from the claims of its parts.
use Rattle.std.proofs.Common.{◌≡◌, ℕ, ◌+◌, ◌<◌, Bool, true, false, List, max, Option, Some, refl, sym, subst, arith}
use Rattle.stan_model_grammar.specs.declared.operators.BinaryOperator.{BinaryOperator}
use Rattle.stan_model_grammar.specs.declared.operators.Visibility.{Visibility}
use Rattle.stan_model_grammar.specs.declared.token.Token.{Token}
use Rattle.stan_model_grammar.specs.declared.token.TokenKind.{TokenKind}
use Rattle.stan_model_grammar.specs.declared.token.TokenKind.TheVariants as kinds
use Rattle.stan_model_grammar.specs.Strata.{kind_at, loosest, binary_stratum, tighter}
use Rattle.stan_model_grammar.specs.Trees.{TypeTree, Tree, Items, no_item, items, Item, Positional, Spread, Named, Element, KeyedElement, Parameter, Captured, Arm, DefaultArm, Default, no_default, default, Arguments, no_arguments, arguments, NamedClass, VariableClass, ScopedClass, ComputedClass, MemberName, NamedMember, ComputedMember, Steps, no_step, step, Step, Push, Index, Property, Scoped, Call, Increment, Decrement, Operation, Part, Inserted, Further}
use Rattle.stan_model_grammar.specs.Expressions.{ItemSort, argument, element, expression, parameter, captured, arm, StepSort, class_suffix, further, IsSomeItem, takes_arguments, Is, May, Between, Lists, Repeats, StepReads}
use Rattle.stan_model_grammar.specs.Depth.{depth, items_depth, arguments_depth, member_depth, steps_depth, step_depth}
use Rattle.stan_expr_rules.proofs.InsideLemmas.{class_inside, step_inside}
use Rattle.stan_expr_rules.specs.Parse.{positional, argument_at, list_items, fenced, fenced_some, parameters, below}
use Rattle.stan_expr_rules.proofs.Greedy.{Near}
use Rattle.stan_expr_greedy.proofs.Reading.{after_at, after_not, after_to}
use Rattle.stan_expr_greedy.proofs.Computes.{apart}
use Rattle.stan_expr_greedy.proofs.SoundTables.{stratum_bounds}
use Rattle.stan_expr_greedy.proofs.Begins.{clash, closes, tree_begins, expressions_begin, item_begins}
use Rattle.stan_expr_greedy.proofs.CompleteItems.{closes_some, Ends, comma_ends, StepEnds, reader, spread_argument, positional_reads, positional_argument, named_argument, spread_element, element_reads, keyed_element, no_default_reads, some_default_reads, parameter_reads, captured_reads, default_arm_reads, conditions_arm_reads, some_items_read}
use Rattle.stan_expr_greedy.proofs.CompleteSteps.{no_arguments_read, arguments_read, named_member_reads, computed_member_reads, push_taken, index_taken, property_taken, scoped_taken, call_taken, increment_taken, decrement_taken, variable_class_reads, named_class_reads, scoped_class_reads, computed_class_reads, part_taken, inserted_taken, operation_taken}
use Rattle.stan_expr_greedy.proofs.CompleteStrata.{no_pattern, in_each}
use Rattle.stan_expr_greedy.proofs.CompleteStarts.{tighter_in, token_of}
use Rattle.stan_expr_greedy.proofs.CompleteClaims.{within_first, within_second, within_at_most, TreeC, ItemsC, ItemC, DefaultC, ArgumentsC, ClassC, MemberC, StepsC, StepC, inner, inner_loosest, enclosed_claim}

module _ (ts : List Token) where
  -- ---- lists

  list_claim : (es : Items) → ItemsC ts es → (n : ℕ) (sort : ItemSort) (closing : TokenKind) (at to : ℕ) → closes closing ≡ true → Ends sort closing → Lists ts (Near ts) sort es at to → Is ts to closing → items_depth es < n
      → list_items ts (below ts n) (reader ts (below ts n) sort) closing at ≡ Some (es, to)
  unfolding list_items
  list_claim no_item c n sort closing at to z e h k d = rw (h, after_at ts closing to (closes_some closing z) k) refl
  list_claim (items x xs comma) c n sort closing at to z e h k d =
      let other : kind_at ts at ≡ closing → ⊥ = λ q. apart closes closing (kind_at ts at) z (item_begins ts (Near ts) x sort at h.0 h.2) (sym q) in
      rw (after_not ts closing at other) (c n sort closing at to tt z e h k d)

  pub fenced_claim : (es : Items) → ItemsC ts es → (n : ℕ) (sort : ItemSort) (opening closing : TokenKind) (at to : ℕ) → (kinds.End ≡ opening → ⊥) → closes closing ≡ true → Ends sort closing → Between ts opening (Lists ts (Near ts) sort es) closing at to → items_depth es < n
      → fenced ts (below ts n) (reader ts (below ts n) sort) opening closing at ≡ Some (es, to)
  unfolding fenced
  fenced_claim es c n sort opening closing at to some z e h d =
      rw (after_at ts opening at some h.1, list_claim es c n sort closing (at + 1) h.0 z e h.2 h.3 d, after_to ts closing h.0 to (closes_some closing z) h.3 h.4) refl

  pub fenced_some_claim : (es : Items) → ItemsC ts es → (n at to : ℕ) → IsSomeItem es → Between ts kinds.LeftParenthesis (Lists ts (Near ts) expression es) kinds.RightParenthesis at to → items_depth es < n
      → fenced_some ts (below ts n) (positional ts (below ts n)) at ≡ Some (es, to)
  unfolding fenced_some
  fenced_some_claim es c n at to some h d =
      rw (after_at ts kinds.LeftParenthesis at (λ e. cc) h.1, c n expression kinds.RightParenthesis (at + 1) h.0 some refl tt h.2 h.3 d, after_to ts kinds.RightParenthesis h.0 to (λ e. cc) h.3 h.4) refl

  pub parameters_claim : (es : Items) → ItemsC ts es → (n at to : ℕ) → Between ts kinds.LeftParenthesis (Lists ts (Near ts) parameter es) kinds.RightParenthesis at to → items_depth es < n → parameters ts (below ts n) at ≡ Some (es, to)
  unfolding parameters
  parameters_claim es c n at to h d = fenced_claim es c n parameter kinds.LeftParenthesis kinds.RightParenthesis at to (λ e. cc) refl (λ e. cc) h d

  called_claim : (es : Items) → ItemsC ts es → (n at to : ℕ) → Between ts kinds.LeftParenthesis (Lists ts (Near ts) argument es) kinds.RightParenthesis at to → items_depth es < n
      → fenced ts (below ts n) (argument_at ts (below ts n)) kinds.LeftParenthesis kinds.RightParenthesis at ≡ Some (es, to)
  called_claim es c n at to h d = fenced_claim es c n argument kinds.LeftParenthesis kinds.RightParenthesis at to (λ e. cc) refl tt h d

  further_comma : (x : Step) (sort : ItemSort) (at to : ℕ) → StepReads ts (Near ts) (further sort) x at to → Is ts at kinds.Comma
  further_comma (Further x) sort at to h = h.0
  further_comma Push sort at to h = absurd h.0
  further_comma (Index e) sort at to h = absurd h.0
  further_comma (Property nullsafe name es) sort at to h = absurd h.1
  further_comma (Scoped t es) sort at to h = clash _ h.0
  further_comma (Call es) sort at to h = absurd h.0
  further_comma Increment sort at to h = absurd h.0
  further_comma Decrement sort at to h = absurd h.0
  further_comma (Operation sign o e) sort at to h = absurd h.1
  further_comma (Part t) sort at to h = absurd h.0
  further_comma (Inserted e) sort at to h = absurd h.0

  -- what stands where further steps begin
  step_ends : (xs : Steps) (sort : StepSort) (at to : ℕ) → Repeats ts (Near ts) sort xs at to → StepEnds sort (kind_at ts to) → StepEnds sort (kind_at ts at)
  step_ends no_step sort at to h e = subst (λ y. StepEnds sort (kind_at ts y)) (sym h) e
  step_ends (step x xs) (further sort) at to h e = subst (Ends sort) (sym (further_comma x sort at h.0 h.1)) (comma_ends sort)
  step_ends (step x xs) sort at to h e = tt

  list_ends : (sort : ItemSort) (comma : Bool) (closing : TokenKind) (at to : ℕ) → Ends sort closing → May ts comma kinds.Comma at to → Is ts to closing → Ends sort (kind_at ts at)
  list_ends sort true closing at to e h k = subst (Ends sort) (sym h.0) (comma_ends sort)
  list_ends sort false closing at to e h k = let here : kind_at ts at ≡ closing = rw h k in subst (Ends sort) (sym here) e

  pub items_claim : (x : Item) (xs : Steps) (comma : Bool) → ItemC ts x → StepsC ts xs → ItemsC ts (items x xs comma)
  items_claim x xs comma cx cs n sort closing at to some z e h k d =
      let ends = list_ends sort comma closing h.1 to e h.4 k in
      let first = cx n sort at h.0 h.2 (step_ends xs (further sort) h.0 h.1 h.3 ends) (omega arith) in
      some_items_read ts (below ts n) x xs comma sort closing at h.0 h.1 to z first (cs n (further sort) h.0 h.1 h.3 ends (omega arith)) h.4 k

  -- ---- items

  pub positional_claim : (t : Tree) → TreeC ts t → ItemC ts (Positional t)
  positional_claim t c n argument at to h e d = positional_argument ts (below ts n) t at to (tree_begins ts (Near ts) t false loosest at to h.1) h.0 (inner_loosest ts t c n false at to h.1 d)
  positional_claim t c n expression at to h e d = positional_reads ts (below ts n) t at to (inner_loosest ts t c n false at to h d)
  positional_claim t c n sort at to h e d = absurd h

  pub spread_claim : (t : Tree) → TreeC ts t → ItemC ts (Spread t)
  spread_claim t c n argument at to h e d = spread_argument ts (below ts n) t at to h.0 (inner_loosest ts t c n false (at + 1) to h.1 d)
  spread_claim t c n element at to h e d = spread_element ts (below ts n) t at to h.0 (inner_loosest ts t c n false (at + 1) to h.1 d)
  spread_claim t c n sort at to h e d = absurd h

  pub named_claim : (u : Token) (t : Tree) → TreeC ts t → ItemC ts (Named u t)
  named_claim u t c n argument at to h e d = named_argument ts (below ts n) u t at to h.0 h.1 h.2 (inner_loosest ts t c n false (at + 2) to h.3 d)
  named_claim u t c n sort at to h e d = absurd h

  pub element_claim : (reference : Bool) (t : Tree) → TreeC ts t → ItemC ts (Element reference t)
  element_claim reference t c n element at to h e d =
      element_reads ts (below ts n) reference t at h.0 to h.1 (tree_begins ts (Near ts) t true loosest h.0 to h.2) (inner_loosest ts t c n true h.0 to h.2 d) e
  element_claim reference t c n sort at to h e d = absurd h

  pub keyed_claim : (key : Tree) (reference : Bool) (t : Tree) → TreeC ts key → TreeC ts t → ItemC ts (KeyedElement key reference t)
  keyed_claim key reference t ck c n element at to h e d =
      let first = inner_loosest ts key ck n true at h.0 (in_each ts true loosest key at h.0 h.2) (omega arith) in
      let second = inner_loosest ts t c n true h.1 to h.5 (omega arith) in
      keyed_element ts (below ts n) key t reference at h.0 h.1 to (tree_begins ts (Near ts) key false loosest at h.0 h.2) (no_pattern ts loosest key at h.0 h.2) first h.3 h.4 (tree_begins ts (Near ts) t true loosest h.1 to h.5) second
  keyed_claim key reference t ck c n sort at to h e d = absurd h

  pub parameter_claim : (v : Option Visibility) (type : Option TypeTree) (reference variadic : Bool) (t : Token) (value : Default) → DefaultC ts value → ItemC ts (Parameter v type reference variadic t value)
  parameter_claim v type reference variadic t value c n parameter at to h e d = parameter_reads ts (below ts n) v type reference variadic t value at to h (c n (h.3 + 1) to h.10 e d)
  parameter_claim v type reference variadic t value c n sort at to h e d = absurd h

  pub captured_claim : (t : Token) → ItemC ts (Captured t)
  captured_claim t n captured at to h e d = captured_reads ts (below ts n) t at to h.0 h.1 h.2
  captured_claim t n sort at to h e d = absurd h

  pub arm_claim : (es : Items) (t : Tree) → ItemsC ts es → TreeC ts t → ItemC ts (Arm es t)
  arm_claim es t cs c n arm at to h e d =
      let conditions = cs n expression kinds.DoubleArrow at h.0 h.1 refl tt h.2 h.3 (omega arith) in
      conditions_arm_reads ts (below ts n) es t at h.0 to (expressions_begin ts (Near ts) es at h.0 h.1 h.2) conditions h.3 (inner_loosest ts t c n false (h.0 + 1) to h.4 (omega arith))
  arm_claim es t cs c n sort at to h e d = absurd h

  pub default_arm_claim : (comma : Bool) (t : Tree) → TreeC ts t → ItemC ts (DefaultArm comma t)
  default_arm_claim comma t c n arm at to h e d = default_arm_reads ts (below ts n) comma t at h.0 to h.1 h.2 h.3 (inner_loosest ts t c n false (h.0 + 1) to h.4 d)
  default_arm_claim comma t c n sort at to h e d = absurd h

  pub no_default_claim : DefaultC ts no_default
  no_default_claim n at to h e d = rw h (no_default_reads ts (below ts n) to e)

  pub default_claim : (t : Tree) → TreeC ts t → DefaultC ts (default t)
  default_claim t c n at to h e d = some_default_reads ts (below ts n) t at to h.0 (inner_loosest ts t c n false (at + 1) to h.1 d)

  -- ---- arguments, classes and members

  pub no_arguments_claim : ArgumentsC ts no_arguments
  no_arguments_claim n callable at to h d = no_arguments_read ts (below ts n) callable at to h

  pub arguments_claim : (es : Items) → ItemsC ts es → ArgumentsC ts (arguments es)
  arguments_claim es c n callable at to h d = arguments_read ts (below ts n) callable es at to h.0 h.1.1 (called_claim es c n at to h.1 (omega arith))

  pub named_class_claim : (t : Token) → ClassC ts (NamedClass t)
  named_class_claim t n at to h d = named_class_reads ts (below ts n) t at to h.0 h.1 h.2 h.3

  pub variable_class_claim : (t : Token) (ss : Steps) → StepsC ts ss → ClassC ts (VariableClass t ss)
  variable_class_claim t ss c n at to h d =
      let i = class_inside ts (Near ts) (VariableClass t ss) at to h in
      variable_class_reads ts (below ts n) t ss at to h.0 h.1 (c n class_suffix (at + 1) to h.2 tt d) h.3 i.1

  pub scoped_class_claim : (t u : Token) (ss : Steps) → StepsC ts ss → ClassC ts (ScopedClass t u ss)
  scoped_class_claim t u ss c n at to h d =
      let i = class_inside ts (Near ts) (ScopedClass t u ss) at to h in
      scoped_class_reads ts (below ts n) t u ss at to h.0 h.1 h.2 h.3 h.4 (c n class_suffix (at + 3) to h.5 tt d) h.6 i.1

  pub computed_class_claim : (t : Tree) → TreeC ts t → ClassC ts (ComputedClass t)
  computed_class_claim t c n at to h d =
      let u = token_of ts kinds.LeftParenthesis at (λ e. cc) h.1 in
      computed_class_reads ts (below ts n) u.0 t at to u.1 h.1 (enclosed_claim ts t c n kinds.LeftParenthesis kinds.RightParenthesis at to (λ e. cc) (λ e. cc) h (omega arith))

  pub named_member_claim : (t : Token) → MemberC ts (NamedMember t)
  named_member_claim t n at to h d = named_member_reads ts (below ts n) t at to h.0 h.1 h.2

  pub computed_member_claim : (t : Tree) → TreeC ts t → MemberC ts (ComputedMember t)
  computed_member_claim t c n at to h d = computed_member_reads ts (below ts n) t at to h.1 (enclosed_claim ts t c n kinds.LeftBrace kinds.RightBrace at to (λ e. cc) (λ e. cc) h (omega arith))

  -- ---- steps

  pub no_step_claim : StepsC ts no_step
  no_step_claim n sort at to h e d = h

  pub step_claim : (x : Step) (xs : Steps) → StepC ts x → StepsC ts xs → StepsC ts (step x xs)
  step_claim x xs c cs n sort at to h e d = (
    h.0,
    (step_inside ts (Near ts) x sort at h.0 h.1).0,
    c n sort at h.0 h.1 (step_ends xs sort h.0 to h.2 e) (within_first sort (step_depth x) (steps_depth xs) n d),
    cs n sort h.0 to h.2 e (within_second sort (step_depth x) (steps_depth xs) n d),
  )

  pub push_claim : StepC ts Push
  push_claim n sort at to h e d = push_taken ts (below ts n) sort at to h.0 h.1 h.2 h.3

  pub index_claim : (t : Tree) → TreeC ts t → StepC ts (Index t)
  index_claim t c n sort at to h e d =
      let within = within_at_most sort (depth t + 1) n d in
      index_taken ts (below ts n) sort t at to h.0 h.1.1 (tree_begins ts (Near ts) t false loosest (at + 1) h.1.0 h.1.2)
      (enclosed_claim ts t c n kinds.LeftBracket kinds.RightBracket at to (λ e. cc) (λ e. cc) h.1 (omega arith))

  pub property_claim : (nullsafe : Bool) (name : MemberName) (es : Arguments) → MemberC ts name → ArgumentsC ts es → StepC ts (Property nullsafe name es)
  property_claim nullsafe name es c cs n sort at to h e d =
      let within = within_at_most sort (max (member_depth name) (arguments_depth es)) n d in
      property_taken ts (below ts n) sort nullsafe name es at h.0 to h.1 h.2 (c n (at + 1) h.0 h.3 (omega arith)) (cs n (takes_arguments sort) h.0 to h.4 (omega arith))

  pub scoped_claim : (t : Token) (es : Arguments) → ArgumentsC ts es → StepC ts (Scoped t es)
  scoped_claim t es c n sort at to h e d = scoped_taken ts (below ts n) sort t es at to h.0 h.1 h.2 (c n (takes_arguments sort) (at + 2) to h.3 (within_at_most sort (arguments_depth es) n d))

  pub call_claim : (es : Items) → ItemsC ts es → StepC ts (Call es)
  call_claim es c n sort at to h e d =
      let within = within_at_most sort (items_depth es + 1) n d in
      call_taken ts (below ts n) sort es at to h.0 h.1.1 (called_claim es c n at to h.1 (omega arith))

  pub increment_claim : StepC ts Increment
  increment_claim n sort at to h e d = increment_taken ts (below ts n) sort at to h.0 h.1 h.2

  pub decrement_claim : StepC ts Decrement
  decrement_claim n sort at to h e d = decrement_taken ts (below ts n) sort at to h.0 h.1 h.2

  pub operation_claim : (sign : Token) (o : BinaryOperator) (t : Tree) → TreeC ts t → StepC ts (Operation sign o t)
  operation_claim sign o t c n sort at to h e d =
      let within = within_at_most sort (depth t + 1) n d in
      let stratum = stratum_bounds o in
      let operands = tighter_in (binary_stratum o) stratum.0 in
      operation_taken ts (below ts n) sort sign o t at h.0 to h.1 h.2 (inner ts t c n false (tighter (binary_stratum o)) h.0 to operands.0 (omega (arith, operands.1, stratum.1)) h.3 (omega arith))

  pub part_claim : (t : Token) → StepC ts (Part t)
  part_claim t n sort at to h e d = part_taken ts (below ts n) sort t at to h.0 h.1 h.2 h.3

  pub inserted_claim : (t : Tree) → TreeC ts t → StepC ts (Inserted t)
  inserted_claim t c n sort at to h e d =
      let within = within_at_most sort (depth t + 1) n d in
      let u = token_of ts kinds.InsertionStart at (λ e. cc) h.1.1 in
      inserted_taken ts (below ts n) sort u.0 t at to h.0 u.1 h.1.1 (enclosed_claim ts t c n kinds.InsertionStart kinds.InsertionEnd at to (λ e. cc) (λ e. cc) h.1 (omega arith))

  pub further_claim : (x : Item) → ItemC ts x → StepC ts (Further x)
  further_claim x c n (further sort) at to h e d = (h.0, item_begins ts (Near ts) x sort (at + 1) to h.1, c n sort (at + 1) to h.1 e d)
  further_claim x c n sort at to h e d = absurd h
