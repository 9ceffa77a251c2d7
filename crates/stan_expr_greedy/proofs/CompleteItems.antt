-- Items and lists are read as they stand, where the expressions in them are.
use Rattle.std.proofs.Common.{◌≡◌, ℕ, ◌+◌, ◌≤◌, ◌<◌, Bool, true, false, List, [], ◌∷◌, length, Option, Some, None, refl, sym, ap, ◌∙◌, arith}
use Rattle.std.specs.Prelude.{IsTrue}
use Rattle.stan_model_grammar.specs.declared.operators.BinaryOperator.{BinaryOperator}
use Rattle.stan_model_grammar.specs.declared.operators.Visibility.{Visibility}
use Rattle.stan_model_grammar.specs.declared.token.Token.{Token}
use Rattle.stan_model_grammar.specs.declared.token.TokenKind.{TokenKind}
use Rattle.stan_model_grammar.specs.declared.token.TokenKind.TheVariants as kinds
use Rattle.stan_model_grammar.specs.Strata.{kind_at, loosest, binary_stratum, names_argument}
use Rattle.stan_model_grammar.specs.Trees.{TypeTree, Tree, Items, items, Item, Positional, Spread, Named, Element, KeyedElement, Parameter, Captured, Arm, DefaultArm, Default, no_default, default, Steps, no_step, step, Step, Operation, Further, is_pattern}
use Rattle.stan_model_grammar.specs.Expressions.{ItemSort, argument, element, expression, parameter, captured, arm, StepSort, suffix, class_suffix, part, operation, further, Is, Stands, May, Between, ItemReads}
use Rattle.stan_expr_rules.proofs.InsideLemmas.{is_inside, stands_kind}
use Rattle.stan_model_grammar.specs.TreeLists.{Operated, furthers}
use Rattle.stan_expr_rules.specs.Parse.{Read, many, enclosed, spread, positional, named_with, named, unspread, argument_at, keyed_with, keyed, referenced, value, unspread_element, element_at, some_default, may_default, parameter_with, parameter_at, captured_at, further_after, further_item, more_items, some_items, default_arm, conditions_arm, arm_at, suffix_at, class_suffix_at, part_at, operation_at}
use Rattle.stan_expr_rules.proofs.Greedy.{Near}
use Rattle.stan_expr_greedy.proofs.Reading.{after_at, after_not, after_to}
use Rattle.stan_expr_greedy.proofs.Computes.{apart, after_other, may_reads, Turns, many_reads}
use Rattle.stan_expr_greedy.proofs.Begins.{begins, closes, reference_begins, may_type_begins}
use Rattle.stan_expr_greedy.proofs.CompleteParts.{may_type_reads, visibility_reads}

-- ---- what follows an item

-- what an item of a list may be followed by
abbrev pub Ends : ItemSort → TokenKind → Type 0
Ends element kind = kind ≡ kinds.DoubleArrow → ⊥
Ends parameter kind = kind ≡ kinds.Assign → ⊥
Ends _ kind = Unit {0}

pub comma_ends : (sort : ItemSort) → Ends sort kinds.Comma
comma_ends element = λ e. cc
comma_ends parameter = λ e. cc
comma_ends sort = tt

abbrev pub StepEnds : StepSort → TokenKind → Type 0
StepEnds (further sort) kind = Ends sort kind
StepEnds sort kind = Unit {0}

-- how deep a step is where n levels are left
abbrev pub Within : StepSort → ℕ → ℕ → Type 0
Within (further sort) d n = d < n
Within sort d n = d ≤ n

abbrev pub item_list : Steps → List Item
item_list no_step = []
item_list (step (Further x) xs) = x ∷ item_list xs
item_list (step x xs) = item_list xs

pub closes_some : (kind : TokenKind) → closes kind ≡ true → kinds.End ≡ kind → ⊥
closes_some kind c e = apart closes kind kinds.End c refl (sym e)

closes_no_comma : (kind : TokenKind) → closes kind ≡ true → kind ≡ kinds.Comma → ⊥
closes_no_comma kind c e = apart closes kind kinds.Comma c refl e

abbrev pub operated : Token → BinaryOperator → Tree → Operated
operated sign o e = record { token = sign; operator = o; operand = e }

module _ (ts : List Token) (b : Bool → ℕ → ℕ → Read Tree) where
  abbrev pub Gives : Bool → ℕ → Tree → ℕ → ℕ → Type 0
  Gives p k t at to = b p k at ≡ Some (t, to)

  -- the parser of an item of a sort
  abbrev pub reader : ItemSort → ℕ → Read Item
  reader argument = argument_at ts b
  reader element = element_at ts b
  reader expression = positional ts b
  reader parameter = parameter_at ts b
  reader captured = captured_at ts b
  reader arm = arm_at ts b

  pub enclosed_reads : (I : ℕ → ℕ → Type 0) (opening closing : TokenKind) (e : Tree) (at to : ℕ) → (kinds.End ≡ opening → ⊥) → (kinds.End ≡ closing → ⊥) → (h : Between ts opening I closing at to) → Gives false loosest e (at + 1) h.0
      → enclosed ts b opening closing at ≡ Some (e, to)
  unfolding enclosed
  enclosed_reads I opening closing e at to some other h d = rw (after_at ts opening at some h.1, d, after_to ts closing h.0 to other h.3 h.4) refl

  -- ---- arguments and elements

  pub spread_argument : (e : Tree) (at to : ℕ) → Is ts at kinds.Ellipsis → Gives false loosest e (at + 1) to → argument_at ts b at ≡ Some (Spread e, to)
  unfolding argument_at spread
  spread_argument e at to k d = rw (after_at ts kinds.Ellipsis at (λ e. cc) k, d) refl

  pub positional_reads : (e : Tree) (at to : ℕ) → Gives false loosest e at to → positional ts b at ≡ Some (Positional e, to)
  unfolding positional
  positional_reads e at to d = rw d refl

  pub positional_argument : (e : Tree) (at to : ℕ) → begins (kind_at ts at) ≡ true → (kind_at ts (at + 1) ≡ kinds.Colon → ⊥) → Gives false loosest e at to → argument_at ts b at ≡ Some (Positional e, to)
  unfolding argument_at unspread
  positional_argument e at to o other d =
      rw (after_not ts kinds.Ellipsis at (apart begins (kind_at ts at) kinds.Ellipsis o refl), after_not ts kinds.Colon (at + 1) other, positional_reads e at to d) refl

  pub named_argument : (t : Token) (e : Tree) (at to : ℕ) → Stands ts at t → IsTrue (names_argument t.kind) → Is ts (at + 1) kinds.Colon → Gives false loosest e (at + 2) to → argument_at ts b at ≡ Some (Named t e, to)
  unfolding argument_at unspread named named_with
  named_argument t e at to s names k d =
      let other : kind_at ts at ≡ kinds.Ellipsis → ⊥ = λ q. apart names_argument t.kind kinds.Ellipsis names refl (sym (stands_kind ts at t s) ∙ q) in
      rw (after_not ts kinds.Ellipsis at other, after_to ts kinds.Colon (at + 1) (at + 2) (λ e. cc) k (omega arith), s, names, d) refl

  pub spread_element : (e : Tree) (at to : ℕ) → Is ts at kinds.Ellipsis → Gives false loosest e (at + 1) to → element_at ts b at ≡ Some (Spread e, to)
  unfolding element_at spread
  spread_element e at to k d = rw (after_at ts kinds.Ellipsis at (λ e. cc) k, d) refl

  pub referenced_element : (e : Tree) (at to : ℕ) → Is ts at kinds.Ampersand → Gives true loosest e (at + 1) to → element_at ts b at ≡ Some (Element true e, to)
  unfolding element_at unspread_element referenced
  referenced_element e at to k d = rw (after_other ts kinds.Ellipsis kinds.Ampersand at k (λ e. cc), after_at ts kinds.Ampersand at (λ e. cc) k, d) refl

  plain_element : (x : Item) (at to : ℕ) → begins (kind_at ts at) ≡ true → value ts b at ≡ Some (x, to) → element_at ts b at ≡ Some (x, to)
  unfolding element_at unspread_element
  plain_element x at to o h =
      rw (after_not ts kinds.Ellipsis at (apart begins (kind_at ts at) kinds.Ellipsis o refl), after_not ts kinds.Ampersand at (apart begins (kind_at ts at) kinds.Ampersand o refl)) h

  pub value_element : (e : Tree) (at to : ℕ) → begins (kind_at ts at) ≡ true → Gives true loosest e at to → (kind_at ts to ≡ kinds.DoubleArrow → ⊥) → element_at ts b at ≡ Some (Element false e, to)
  unfolding value
  value_element e at to o d other = plain_element (Element false e) at to o (rw (d, after_not ts kinds.DoubleArrow to other) refl)

  pub element_reads : (reference : Bool) (e : Tree) (at m to : ℕ) → May ts reference kinds.Ampersand at m → begins (kind_at ts m) ≡ true → Gives true loosest e m to → (kind_at ts to ≡ kinds.DoubleArrow → ⊥) → element_at ts b at ≡ Some (Element reference e, to)
  element_reads true e at m to h o d other = referenced_element e at to h.0 (rw h.1 at d)
  element_reads false e at m to h o d other = rw h (value_element e m to o d other)

  pub keyed_element : (key e : Tree) (reference : Bool) (at m c to : ℕ) → begins (kind_at ts at) ≡ true → is_pattern key ≡ false → Gives true loosest key at m → Is ts m kinds.DoubleArrow → May ts reference kinds.Ampersand (m + 1) c
      → begins (kind_at ts c) ≡ true → Gives true loosest e c to → element_at ts b at ≡ Some (KeyedElement key reference e, to)
  unfolding value keyed keyed_with
  keyed_element key e reference at m c to o still first k h p d =
      let r = may_reads ts reference kinds.Ampersand (m + 1) c (λ e. cc) h (λ _. apart begins (kind_at ts c) kinds.Ampersand p refl) in
      plain_element (KeyedElement key reference e) at to o (rw (first, after_at ts kinds.DoubleArrow m (λ e. cc) k, still, r, d) refl)

  -- ---- parameters and captured variables

  pub no_default_reads : (at : ℕ) → (kind_at ts at ≡ kinds.Assign → ⊥) → may_default ts b at ≡ Some (no_default, at)
  unfolding may_default
  no_default_reads at other = rw (after_not ts kinds.Assign at other) refl

  pub some_default_reads : (e : Tree) (at to : ℕ) → Is ts at kinds.Assign → Gives false loosest e (at + 1) to → may_default ts b at ≡ Some (default e, to)
  unfolding may_default some_default
  some_default_reads e at to k d = rw (after_at ts kinds.Assign at (λ e. cc) k, d) refl

  no_ampersand : (variadic : Bool) (c d : ℕ) → May ts variadic kinds.Ellipsis c d → Is ts d kinds.Variable → kind_at ts c ≡ kinds.Ampersand → ⊥
  no_ampersand true c d h k q = cc (h.0, q)
  no_ampersand false c d h k q = let e : kind_at ts c ≡ kinds.Variable = rw h k in cc

  pub parameter_reads : (v : Option Visibility) (type : Option TypeTree) (reference variadic : Bool) (t : Token) (e : Default) (at to : ℕ) (h : ItemReads ts (Near ts) parameter (Parameter v type reference variadic t e) at to)
      → may_default ts b (h.3 + 1) ≡ Some (e, to) → parameter_at ts b at ≡ Some (Parameter v type reference variadic t e, to)
  unfolding parameter_at parameter_with
  parameter_reads v type reference variadic t e at to h d =
      let behind = reference_begins ts (Near ts) reference variadic h.1 h.2 h.3 h.6 h.7 h.9 in
      let visible = visibility_reads ts v at h.0 h.4 (may_type_begins ts (Near ts) type h.0 h.1 h.5 behind) in
      let typed = may_type_reads ts type h.0 h.1 h.5 behind in
      let last : kind_at ts h.3 ≡ kinds.Ellipsis → ⊥ = λ q. cc (h.9, q) in
      let many_is = may_reads ts variadic kinds.Ellipsis h.2 h.3 (λ e. cc) h.7 (λ _. last) in
      let by_reference = may_reads ts reference kinds.Ampersand h.1 h.2 (λ e. cc) h.6 (λ _. no_ampersand variadic h.2 h.3 h.7 h.9) in
      rw (visible, typed, by_reference, many_is, h.8, after_at ts kinds.Variable h.3 (λ e. cc) h.9, d) refl

  pub captured_reads : (t : Token) (at to : ℕ) → Stands ts at t → Is ts at kinds.Variable → to ≡ at + 1 → captured_at ts b at ≡ Some (Captured t, to)
  unfolding captured_at
  captured_reads t at to s k e = rw (s, after_to ts kinds.Variable at to (λ e. cc) k e) refl

  -- ---- arms

  pub default_arm_reads : (comma : Bool) (e : Tree) (at m to : ℕ) → Is ts at kinds.Default → May ts comma kinds.Comma (at + 1) m → Is ts m kinds.DoubleArrow → Gives false loosest e (m + 1) to → arm_at ts b at ≡ Some (DefaultArm comma e, to)
  unfolding arm_at default_arm
  default_arm_reads comma e at m to k h arrow d =
      let r = may_reads ts comma kinds.Comma (at + 1) m (λ e. cc) h (λ _ q. closes_no_comma (kind_at ts m) (ap closes arrow) q) in
      rw (after_at ts kinds.Default at (λ e. cc) k, r, after_at ts kinds.DoubleArrow m (λ e. cc) arrow, d) refl

  pub conditions_arm_reads : (es : Items) (e : Tree) (at m to : ℕ) → begins (kind_at ts at) ≡ true → some_items ts b (positional ts b) kinds.DoubleArrow at ≡ Some (es, m) → Is ts m kinds.DoubleArrow → Gives false loosest e (m + 1) to
      → arm_at ts b at ≡ Some (Arm es e, to)
  unfolding arm_at conditions_arm
  conditions_arm_reads es e at m to o s arrow d =
      rw (after_not ts kinds.Default at (apart begins (kind_at ts at) kinds.Default o refl), s, after_at ts kinds.DoubleArrow m (λ e. cc) arrow, d) refl

  -- ---- steps that are taken

  -- that a turn at the place gives the step
  abbrev pub Taken : StepSort → Step → ℕ → ℕ → Type 0
  Taken suffix x at to = suffix_at ts b at ≡ Some (Some (x, to))
  Taken class_suffix x at to = class_suffix_at ts b at ≡ Some (Some (x, to))
  Taken part x at to = part_at ts b at ≡ Some (Some (x, to))
  Taken (operation j) (Operation sign o e) at to = (binary_stratum o ≡ j) × (operation_at ts b j at ≡ Some (Some (operated sign o e, to)))
  Taken (further sort) (Further x) at to = Is ts at kinds.Comma × (closes (kind_at ts (at + 1)) ≡ false) × (reader sort (at + 1) ≡ Some (x, to))
  Taken _ x at to = ⊥

  abbrev pub AllTaken : StepSort → Steps → ℕ → ℕ → Type 0
  AllTaken sort no_step at to = at ≡ to
  AllTaken sort (step x xs) at to = (c : ℕ) × (at < c) × Taken sort x at c × AllTaken sort xs c to

  -- ---- lists

  further_reads : (x : Item) (sort : ItemSort) (closing : TokenKind) (at to : ℕ) → closes closing ≡ true → Taken (further sort) (Further x) at to → further_item ts b (reader sort) closing at ≡ Some (Some (x, to))
  unfolding further_item further_after
  further_reads x sort closing at to c h =
      let other : kind_at ts (at + 1) ≡ closing → ⊥ = λ q. apart closes closing (kind_at ts (at + 1)) c h.1 (sym q) in
      rw (after_at ts kinds.Comma at (λ e. cc) h.0, after_not ts closing (at + 1) other, h.2) refl

  further_none : (sort : ItemSort) (closing : TokenKind) (comma : Bool) (at to : ℕ) → closes closing ≡ true → May ts comma kinds.Comma at to → Is ts to closing → further_item ts b (reader sort) closing at ≡ Some None
  unfolding further_item further_after
  further_none sort closing true at to c h k =
      rw (after_at ts kinds.Comma at (λ e. cc) h.0, after_at ts closing (at + 1) (closes_some closing c) (rw h.1 at k)) refl
  further_none sort closing false at to c h k =
      rw (h, after_not ts kinds.Comma to (λ q. closes_no_comma closing c (sym k ∙ q))) refl

  further_turns : (xs : Steps) (sort : ItemSort) (closing : TokenKind) (at to : ℕ) → closes closing ≡ true → AllTaken (further sort) xs at to → further_item ts b (reader sort) closing to ≡ Some None → Turns (further_item ts b (reader sort) closing) (item_list xs) at to
  further_turns no_step sort closing at to c h none = (h, none)
  further_turns (step (Further x) xs) sort closing at to c h none = (h.0, h.1, further_reads x sort closing at h.0 c h.2, further_turns xs sort closing h.0 to c h.3 none)
  further_turns (step x xs) sort closing at to c h none = absurd h.2

  furthers_same : (xs : Steps) (sort : ItemSort) (at to : ℕ) → AllTaken (further sort) xs at to → furthers (item_list xs) ≡ xs
  furthers_same no_step sort at to h = refl
  furthers_same (step (Further x) xs) sort at to h = ap (λ r. step (Further x) r) (furthers_same xs sort h.0 to h.3)
  furthers_same (step x xs) sort at to h = absurd h.2

  may_rise : (comma : Bool) (at to : ℕ) → May ts comma kinds.Comma at to → at ≤ to
  may_rise true at to h = omega (arith, h.1)
  may_rise false at to h = omega (arith, h)

  pub some_items_read : (x : Item) (xs : Steps) (comma : Bool) (sort : ItemSort) (closing : TokenKind) (at a z to : ℕ) → closes closing ≡ true → reader sort at ≡ Some (x, a) → AllTaken (further sort) xs a z → May ts comma kinds.Comma z to → Is ts to closing
      → some_items ts b (reader sort) closing at ≡ Some (items x xs comma, to)
  unfolding some_items more_items
  some_items_read x xs comma sort closing at a z to c first s h k =
      let inside = is_inside ts to closing (λ e. closes_some closing c (sym e)) k in
      let rise = may_rise comma z to h in
      let turns = further_turns xs sort closing a z c s (further_none sort closing comma z to c h k) in
      let more : many (further_item ts b (reader sort) closing) (length ts + 1) (x ∷ []) a ≡ Some (x ∷ item_list xs, z) = many_reads (further_item ts b (reader sort) closing) (item_list xs) (length ts + 1) (x ∷ []) a z (omega arith) turns in
      let r = may_reads ts comma kinds.Comma z to (λ e. cc) h (λ _ q. closes_no_comma closing c (sym k ∙ q)) in
      rw (first, more, r, furthers_same xs sort a z s) refl
