-- A greedy tree is the longest one: over the tokens before the end of a longer tree, it would be greedy still.
use Rattle.std.proofs.Common.{◌≡◌, ◌≢◌, ℕ, zero, suc, ◌+◌, ◌-◌, ◌≤◌, ◌<◌, Bool, true, false, IsTrue, List, [], ◌∷◌, Option, Some, None, take, drop, refl, sym, ap, subst, ◌∙◌, arith, ◌⊎◌, inl, inr, eq-or-lt_of_le}
use Rattle.std.specs.Prelude.{slice_get}
use Rattle.std.specs.List.{fold}
use Rattle.std.proofs.lemmas.Bool.{cases_lt}
use Rattle.stan_model_grammar.specs.declared.operators.ArrayStyle.TheVariants as styles
use Rattle.stan_model_grammar.specs.declared.operators.BinaryOperator.{BinaryOperator}
use Rattle.stan_model_grammar.specs.declared.operators.BinaryOperator.TheVariants as binaries
use Rattle.stan_model_grammar.specs.declared.operators.AssignmentOperator.{AssignmentOperator}
use Rattle.stan_model_grammar.specs.declared.operators.AssignmentOperator.TheVariants as assignments
use Rattle.stan_model_grammar.specs.declared.operators.Visibility.{Visibility}
use Rattle.stan_model_grammar.specs.declared.token.Token.{Token}
use Rattle.stan_model_grammar.specs.declared.token.TokenKind.{TokenKind}
use Rattle.stan_model_grammar.specs.declared.token.TokenKind.TheVariants as kinds
use Rattle.stan_model_grammar.specs.Strata.{kind_of, kind_at, leaf_of, leaf_low, prefix_of, prefix_stratum, binary_at, binary_size, binary_stratum, fixity, tighter, right_side, assignment_at, assignment_size, loosest, joins, is_end, is_exit, visibility_of}
use Rattle.stan_model_grammar.specs.Trees.{TypeTree, Nullable, Union, Tree, node, Form, Single, Brackets, Array, IsSet, Empty, Exit, New, Match, Closure, Arrow, Text, Post, Prefix, Assignment, Chain, Binary, Conditional, Items, no_item, items, Item, Positional, Spread, Named, Element, KeyedElement, Parameter, Captured, Arm, DefaultArm, Default, no_default, default, Arguments, no_arguments, arguments, ClassReference, NamedClass, VariableClass, ScopedClass, ComputedClass, MemberName, NamedMember, ComputedMember, Steps, no_step, step, Step, Push, Index, Property, Scoped, Call, Increment, Decrement, Operation, Part, Inserted, Further, Body, Held, Read}
use Rattle.stan_model_grammar.specs.Expressions.{ItemSort, argument, element, expression, parameter, captured, arm, StepSort, suffix, class_suffix, part, operation, further, has_items, takes_arguments, braces_behind, braces_open, IsMatched, Is, Stands, May, Between, Operates, Assigns, MayBeVisible, TypeName, Alternatives, Types, MayBeTyped, MayReturn, MayCapture, Reads, Forms, Lists, ItemReads, Defaults, MayBeCalled, Classes, Members, Repeats, StepReads, Bodies, IsEnd, arrow}
use Rattle.stan_expr_rules.proofs.InsideLemmas.{may_goes, alternatives_go, may_type_goes, type_inside, return_goes, reads_inside, items_go, captures_go, item_inside, default_goes, arguments_go, member_inside, steps_go, body_inside}
use Rattle.stan_expr_rules.proofs.Greedy.{J, Near, Greedy}
use Rattle.stan_expr_law.proofs.Spelled.{Free}
use Rattle.stan_expr_greedy.proofs.Complete.{one_is_picked}
use Rattle.stan_expr_greedy.proofs.SoundTables.{leaf_low_small, stratum_bounds}
use Rattle.stan_expr_takes.proofs.TakesPatterns.{some_greedy}

-- ---- a tree over tokens that are the same up to its end

pub binary_some : (o : BinaryOperator) → 1 ≤ binary_size o
binary_some binaries.Elvis = omega arith
binary_some _ = omega arith

pub assignment_some : (o : AssignmentOperator) → 1 ≤ assignment_size o
assignment_some assignments.Reference = omega arith
assignment_some _ = omega arith

module _ (ts us : List Token) (S T : ℕ → ℕ → ℕ → Type 0) (m : ℕ)
    (same : (i : ℕ) → i < m → slice_get us i ≡ slice_get ts i)
    (colon : kind_at us m ≡ kinds.Colon → kind_at ts m ≡ kinds.Colon)
    (matched : (first last : ℕ) → last < m → IsMatched ts first last → IsMatched us first last)
    (stops : (low k i : ℕ) → low ≢ 3 → low ≢ 4 → i ≤ m → S low k i → T low k i) where
  kind : (i : ℕ) → i < m → kind_at us i ≡ kind_at ts i
  unfolding kind_at
  kind i lt = ap kind_of (same i lt)

  is : (i : ℕ) (k : TokenKind) → i < m → Is ts i k → Is us i k
  is i k lt h = kind i lt ∙ h

  stand : (i : ℕ) (t : Token) → i < m → Stands ts i t → Stands us i t
  stand i t lt h = same i lt ∙ h

  uncolon : (i : ℕ) → i ≤ m → kind_at ts i ≢ kinds.Colon → kind_at us i ≢ kinds.Colon
  uncolon i le h e =
      let P : ℕ → Type 0 = λ y. kind_at us y ≡ kinds.Colon in
      let Q : ℕ → Type 0 = λ y. kind_at ts y ≡ kinds.Colon in
      elim (eq-or-lt_of_le le) [ inl q ↦ h (subst Q (sym q) (colon (subst P q e))) | inr lt ↦ h (sym (kind i lt) ∙ e) ]

  stop_two : (k i : ℕ) → i ≤ m → S 2 k i → T 2 k i
  stop_two k i le h = stops 2 k i (omega arith) (omega arith) le h

  stop_one : (k i : ℕ) → i ≤ m → S 1 k i → T 1 k i
  stop_one k i le h = stops 1 k i (omega arith) (omega arith) le h

  stop_far : (low k i : ℕ) → 5 ≤ low → i ≤ m → S low k i → T low k i
  stop_far low k i far le h = stops low k i (omega arith) (omega arith) le h

  may : (stands : Bool) (k : TokenKind) (at to : ℕ) → to ≤ m → May ts stands k at to → May us stands k at to
  may true k at to le h = (is at k (omega (arith, h.1)) h.0, h.1)
  may false k at to le h = h

  between : (opening closing : TokenKind) (A B : ℕ → ℕ → Type 0) (at to : ℕ) → to ≤ m → ((b : ℕ) → A (at + 1) b → at + 1 ≤ b)
      → ((b : ℕ) → b ≤ m → A (at + 1) b → B (at + 1) b) → Between ts opening A closing at to → Between us opening B closing at to
  between opening closing A B at to le rises cut h =
      let g = rises h.0 h.2 in
      (h.0, is at opening (omega (arith, g, h.4)) h.1, cut h.0 (omega (arith, h.4)) h.2, is h.0 closing (omega (arith, h.4)) h.3, h.4)

  capture : (some : Bool) (A B : ℕ → ℕ → Type 0) (at to : ℕ) → to ≤ m → ((a b : ℕ) → A a b → a ≤ b)
      → ((a b : ℕ) → b ≤ m → A a b → B a b) → MayCapture ts some A at to → MayCapture us some B at to
  capture false A B at to le rises cut h = cut at to le h
  capture true A B at to le rises cut h =
      let w = h.1 in
      let g = rises (at + 1 + 1) w.0 w.2 in
      (is at kinds.Use (omega (arith, g, w.4)) h.0, between kinds.LeftParenthesis kinds.RightParenthesis A B (at + 1) to le (λ b r. rises (at + 1 + 1) b r) (λ b l r. cut (at + 1 + 1) b l r) h.1)

  operates : (sign : Token) (o : BinaryOperator) (at b : ℕ) → b < m → Operates ts sign o at b → Operates us sign o at b
  operates sign o at b lt h =
      let some = binary_some o in
      let x = kind at (omega (arith, h.1, some)) in
      let y = kind (at + 1) (omega (arith, h.1, some)) in
      (ap (λ z. binary_at z (kind_at us (at + 1))) x ∙ ap (λ z. binary_at (kind_at ts at) z) y ∙ h.0, h.1, stand at sign (omega (arith, h.1, some)) h.2)

  assigns : (o : AssignmentOperator) (at b : ℕ) → b < m → Assigns ts o at b → Assigns us o at b
  assigns o at b lt h =
      let some = assignment_some o in
      let x = kind at (omega (arith, h.1, some)) in
      let y = kind (at + 1) (omega (arith, h.1, some)) in
      (ap (λ z. assignment_at z (kind_at us (at + 1))) x ∙ ap (λ z. assignment_at (kind_at ts at) z) y ∙ h.0, h.1)

  visible : (v : Option Visibility) (at to : ℕ) → to ≤ m → MayBeVisible ts v at to → MayBeVisible us v at to
  visible None at to le h = h
  visible (Some v) at to le h = (ap visibility_of (kind at (omega (arith, h.1))) ∙ h.0, h.1)

  type_name : (t : Token) (at to : ℕ) → to ≤ m → TypeName ts t at to → TypeName us t at to
  type_name t at to le h = (stand at t (omega (arith, h.2)) h.0, h.1, h.2)

  alternatives : (more : List Token) (at to : ℕ) → to ≤ m → Alternatives ts more at to → Alternatives us more at to
  alternatives [] at to le h = h
  alternatives (t ∷ more) at to le h =
      let g = alternatives_go ts more h.0 to h.3 in
      (h.0, is at kinds.Bar (omega (arith, h.2.2, g.0)) h.1, type_name t (at + 1) h.0 (omega (arith, g.0)) h.2, alternatives more h.0 to le h.3)

  types : (type : TypeTree) (at to : ℕ) → to ≤ m → Types ts type at to → Types us type at to
  types (Nullable first t) at to le h =
      (stand at first (omega (arith, h.2.2)) h.0, is at kinds.Question (omega (arith, h.2.2)) h.1, type_name t (at + 1) to le h.2)
  types (Union t more) at to le h =
      let g = alternatives_go ts more h.0 to h.2 in
      (h.0, type_name t at h.0 (omega (arith, g.0)) h.1, alternatives more h.0 to le h.2)

  may_type : (type : Option TypeTree) (at to : ℕ) → to ≤ m → MayBeTyped ts type at to → MayBeTyped us type at to
  may_type None at to le h = h
  may_type (Some type) at to le h = types type at to le h

  may_return : (type : Option TypeTree) (at to : ℕ) → to ≤ m → MayReturn ts type at to → MayReturn us type at to
  may_return None at to le h = h
  may_return (Some type) at to le h =
      let i = type_inside ts type (at + 1) to h.1 in
      (is at kinds.Colon (omega (arith, i.0)) h.0, types type (at + 1) to le h.1)

  bodies : (body : Body) (at to : ℕ) → to ≤ m → Bodies ts S body at to → Bodies us T body at to
  bodies (Held first last) at to le h =
      let up = h.2.rises in
      (is at kinds.LeftBrace (omega (arith, h.1, up, h.4)) h.0, h.1, matched first last (omega (arith, h.4)) h.2, is last kinds.RightBrace (omega (arith, h.4)) h.3, h.4)
  bodies (Read statements) at to le h = absurd h

  abbrev In : Tree → ℕ → ℕ → Type 0
  In e a b = Reads ts S false loosest e a b

  abbrev Out : Tree → ℕ → ℕ → Type 0
  Out e a b = Reads us T false loosest e a b

  tree_rises : (e : Tree) (a b : ℕ) → In e a b → a ≤ b
  tree_rises e a b r = let i = reads_inside ts S e false loosest a b r in omega (arith, i.0)

  list_rises : (es : Items) (sort : ItemSort) (a b : ℕ) → Lists ts S sort es a b → a ≤ b
  list_rises es sort a b r = (items_go ts S es sort a b r).0

  steps_rise : (ss : Steps) (sort : StepSort) (a b : ℕ) → Repeats ts S sort ss a b → a ≤ b
  steps_rise ss sort a b r = (steps_go ts S ss sort a b r).0

  mutual
    pub reads_cut : (t : Tree) (p : Bool) (k at to : ℕ) → to ≤ m → Reads ts S p k t at to → Reads us T p k t at to
    reads_cut (node t f) p k at to le h =
        let i = reads_inside ts S (node t f) p k at to h in
        (stand at t (omega (arith, i.0)) h.0, form_cut f p k at to le (omega (arith, i.0)) h.1)

    form_cut : (f : Form) (p : Bool) (k at to : ℕ) → to ≤ m → at < to → Forms ts S p k f at to → Forms us T p k f at to
    form_cut (Single leaf) p k at to le lt h =
        let low = leaf_low_small leaf in
        (ap leaf_of (kind at (omega (arith, lt))) ∙ h.0, h.1, stops (leaf_low leaf) k to (omega (arith, low)) (omega (arith, low)) le h.2)
    form_cut (Brackets e) p k at to le lt h =
        (between kinds.LeftParenthesis kinds.RightParenthesis (In e) (Out e) at to le (tree_rises e (at + 1)) (λ b l r. reads_cut e false loosest (at + 1) b l r) h.0, stop_one k to le h.1)
    form_cut (Array styles.Brackets es) p k at to le lt h =
        (h.0, between kinds.LeftBracket kinds.RightBracket (Lists ts S element es) (Lists us T element es) at to le (list_rises es element (at + 1)) (λ b l r. items_cut es element (at + 1) b l r) h.1, stop_one k to le h.2)
    form_cut (Array styles.Array es) p k at to le lt h =
        (h.0, is at kinds.Array (omega arith) h.1, between kinds.LeftParenthesis kinds.RightParenthesis (Lists ts S element es) (Lists us T element es) (at + 1) to le (list_rises es element (at + 1 + 1)) (λ b l r. items_cut es element (at + 1 + 1) b l r) h.2, stop_one k to le h.3)
    form_cut (Array styles.List es) p k at to le lt h =
        (h.0, is at kinds.List (omega arith) h.1, between kinds.LeftParenthesis kinds.RightParenthesis (Lists ts S element es) (Lists us T element es) (at + 1) to le (list_rises es element (at + 1 + 1)) (λ b l r. items_cut es element (at + 1 + 1) b l r) h.2, stop_one k to le h.3)
    form_cut (IsSet es) p k at to le lt h =
        (h.0, is at kinds.IsSet (omega arith) h.1, between kinds.LeftParenthesis kinds.RightParenthesis (Lists ts S expression es) (Lists us T expression es) (at + 1) to le (list_rises es expression (at + 1 + 1)) (λ b l r. items_cut es expression (at + 1 + 1) b l r) h.2, stop_one k to le h.3)
    form_cut (Empty e) p k at to le lt h =
        (is at kinds.Empty (omega arith) h.0, between kinds.LeftParenthesis kinds.RightParenthesis (In e) (Out e) (at + 1) to le (tree_rises e (at + 1 + 1)) (λ b l r. reads_cut e false loosest (at + 1 + 1) b l r) h.1, stop_one k to le h.2)
    form_cut (Exit es) p k at to le lt h =
        let P : TokenKind → Type 0 = λ y. IsTrue (is_exit y) in
        (subst P (sym (kind at (omega arith))) h.0, arguments_cut es true (at + 1) to le h.1, stop_one k to le h.2)
    form_cut (New class es) p k at to le lt h =
        let g = arguments_go ts S es true h.0 to h.4 in
        (h.0, h.1, is at kinds.New (omega arith) h.2, class_cut class (at + 1) h.0 (omega (arith, g.0)) h.3, arguments_cut es true h.0 to le h.4, stop_far 5 k to (omega arith) le h.5)
    form_cut (Match e arms) p k at to le lt h =
        let g = list_rises arms arm (h.0 + 1) h.3.0 h.3.2 in (
          h.0,
          is at kinds.Match (omega arith) h.1,
          between kinds.LeftParenthesis kinds.RightParenthesis (In e) (Out e) (at + 1) h.0 (omega (arith, g, h.3.4)) (tree_rises e (at + 1 + 1)) (λ b l r. reads_cut e false loosest (at + 1 + 1) b l r) h.2,
          between kinds.LeftBrace kinds.RightBrace (Lists ts S arm arms) (Lists us T arm arms) h.0 to le (list_rises arms arm (h.0 + 1)) (λ b l r. items_cut arms arm (h.0 + 1) b l r) h.3,
          stop_one k to le h.4,
        )
    form_cut (Closure static reference parameters captures type body) p k at to le lt h =
        let c = list_rises parameters parameter (h.1 + 1) h.8.0 h.8.2 in
        let b = may_goes ts reference kinds.Ampersand (λ e. cc) (h.0 + 1) h.1 h.7 in
        let d = captures_go ts S captures h.2 h.3 h.9 in
        let e = return_goes ts type h.3 h.4 h.10 in
        let f = body_inside ts S body h.4 to h.11 in (
          h.0,
          h.1,
          h.2,
          h.3,
          h.4,
          may static kinds.Static at h.0 (omega (arith, b.0, c, h.8.4, d.0, e.0, f.0)) h.5,
          is h.0 kinds.Function (omega (arith, b.0, c, h.8.4, d.0, e.0, f.0)) h.6,
          may reference kinds.Ampersand (h.0 + 1) h.1 (omega (arith, c, h.8.4, d.0, e.0, f.0)) h.7,
          between kinds.LeftParenthesis kinds.RightParenthesis (Lists ts S parameter parameters) (Lists us T parameter parameters) h.1 h.2 (omega (arith, d.0, e.0, f.0)) (list_rises parameters parameter (h.1 + 1)) (λ b l r. items_cut parameters parameter (h.1 + 1) b l r) h.8,
          capture (has_items captures) (Lists ts S captured captures) (Lists us T captured captures) h.2 h.3 (omega (arith, e.0, f.0)) (list_rises captures captured) (λ a b l r. items_cut captures captured a b l r) h.9,
          may_return type h.3 h.4 (omega (arith, f.0)) h.10,
          bodies body h.4 to le h.11,
          stop_one k to le h.12,
        )
    form_cut (Arrow static reference parameters type e) p k at to le lt h =
        let c = list_rises parameters parameter (h.1 + 1) h.7.0 h.7.2 in
        let b = may_goes ts reference kinds.Ampersand (λ e. cc) (h.0 + 1) h.1 h.6 in
        let d = return_goes ts type h.2 h.3 h.8 in
        let i = tree_rises e (h.3 + 1) to h.10 in (
          h.0,
          h.1,
          h.2,
          h.3,
          may static kinds.Static at h.0 (omega (arith, b.0, c, h.7.4, d.0, i)) h.4,
          is h.0 kinds.Fn (omega (arith, b.0, c, h.7.4, d.0, i)) h.5,
          may reference kinds.Ampersand (h.0 + 1) h.1 (omega (arith, c, h.7.4, d.0, i)) h.6,
          between kinds.LeftParenthesis kinds.RightParenthesis (Lists ts S parameter parameters) (Lists us T parameter parameters) h.1 h.2 (omega (arith, d.0, i)) (list_rises parameters parameter (h.1 + 1)) (λ b l r. items_cut parameters parameter (h.1 + 1) b l r) h.7,
          may_return type h.2 h.3 (omega (arith, i)) h.8,
          is h.3 kinds.DoubleArrow (omega (arith, i)) h.9,
          reads_cut e false loosest (h.3 + 1) to le h.10,
          stop_far 5 k to (omega arith) le h.11,
          h.12,
        )
    form_cut (Text parts) p k at to le lt h =
        (between kinds.TextStart kinds.TextEnd (Repeats ts S part parts) (Repeats us T part parts) at to le (steps_rise parts part (at + 1)) (λ b l r. steps_cut parts part (at + 1) b l r) h.0, stop_one k to le h.1)
    form_cut (Post e ss) p k at to le lt h =
        let g = steps_rise ss suffix h.0 to h.4 in
        (h.0, h.1, h.2, reads_cut e false 0 at h.0 (omega (arith, g)) h.3, steps_cut ss suffix h.0 to le h.4, stop_one k to le h.5)
    form_cut (Prefix o e) p k at to le lt h =
        (h.0, ap prefix_of (kind at (omega arith)) ∙ h.1, reads_cut e false (prefix_stratum o) (at + 1) to le h.2, stop_far 6 k to (omega arith) le h.3)
    form_cut (Assignment target o e) p k at to le lt h =
        let i = reads_inside ts S e false 24 h.1 to h.6 in
        let some = assignment_some o in
        (h.0, h.1, h.2, h.3, reads_cut target true 4 at h.0 (omega (arith, i.0, h.5.1, some)) h.4, assigns o h.0 h.1 (omega (arith, i.0)) h.5, reads_cut e false 24 h.1 to le h.6, stop_far 6 k to (omega arith) le h.7)
    form_cut (Chain j e ss) p k at to le lt h =
        let g = steps_rise ss (operation j) h.0 to h.5 in
        (h.0, h.1, h.2, h.3, reads_cut e false (tighter j) at h.0 (omega (arith, g)) h.4, steps_cut ss (operation j) h.0 to le h.5, stop_far j k to (omega (arith, h.1)) le h.6)
    form_cut (Binary d sign o e) p k at to le lt h =
        let i = reads_inside ts S e false (right_side (fixity o) (binary_stratum o)) h.1 to h.6 in
        let low = (stratum_bounds o).0 in
        (h.0, h.1, h.2, h.3, reads_cut d false (binary_stratum o - 1) at h.0 (omega (arith, i.0, h.5.1)) h.4, operates sign o h.0 h.1 (omega (arith, i.0)) h.5, reads_cut e false (right_side (fixity o) (binary_stratum o)) h.1 to le h.6, stop_far (binary_stratum o + 1) k to (omega (arith, low)) le h.7)
    form_cut (Conditional c d e) p k at to le lt h =
        let x = tree_rises d (h.0 + 1) h.1 h.5 in
        let i = reads_inside ts S e false 21 (h.1 + 1) to h.7 in (
          h.0,
          h.1,
          h.2,
          reads_cut c false 21 at h.0 (omega (arith, x, i.0)) h.3,
          is h.0 kinds.Question (omega (arith, x, i.0)) h.4,
          reads_cut d false loosest (h.0 + 1) h.1 (omega (arith, i.0)) h.5,
          is h.1 kinds.Colon (omega (arith, i.0)) h.6,
          reads_cut e false 21 (h.1 + 1) to le h.7,
          stop_far 24 k to (omega arith) le h.8,
        )

    pub items_cut : (es : Items) (sort : ItemSort) (at to : ℕ) → to ≤ m → Lists ts S sort es at to → Lists us T sort es at to
    items_cut no_item sort at to le h = h
    items_cut (items x xs comma) sort at to le h =
        let f = may_goes ts comma kinds.Comma (λ e. cc) h.1 to h.4 in
        let g = steps_rise xs (further sort) h.0 h.1 h.3 in
        (h.0, h.1, item_cut x sort at h.0 (omega (arith, f.0, g)) h.2, steps_cut xs (further sort) h.0 h.1 (omega (arith, f.0)) h.3, may comma kinds.Comma h.1 to le h.4)

    item_cut : (x : Item) (sort : ItemSort) (at to : ℕ) → to ≤ m → ItemReads ts S sort x at to → ItemReads us T sort x at to
    item_cut (Positional e) argument at to le h =
        let i = reads_inside ts S e false loosest at to h.1 in
        (uncolon (at + 1) (omega (arith, i.0)) h.0, reads_cut e false loosest at to le h.1)
    item_cut (Positional e) expression at to le h = reads_cut e false loosest at to le h
    item_cut (Spread e) argument at to le h = let i = tree_rises e (at + 1) to h.1 in (is at kinds.Ellipsis (omega (arith, i)) h.0, reads_cut e false loosest (at + 1) to le h.1)
    item_cut (Spread e) element at to le h = let i = tree_rises e (at + 1) to h.1 in (is at kinds.Ellipsis (omega (arith, i)) h.0, reads_cut e false loosest (at + 1) to le h.1)
    item_cut (Named t e) argument at to le h =
        let i = tree_rises e (at + 2) to h.3 in
        (stand at t (omega (arith, i)) h.0, h.1, is (at + 1) kinds.Colon (omega (arith, i)) h.2, reads_cut e false loosest (at + 2) to le h.3)
    item_cut (Element reference e) element at to le h =
        let i = reads_inside ts S e true loosest h.0 to h.2 in
        (h.0, may reference kinds.Ampersand at h.0 (omega (arith, i.0)) h.1, reads_cut e true loosest h.0 to le h.2)
    item_cut (KeyedElement key reference e) element at to le h =
        let i = reads_inside ts S e true loosest h.1 to h.5 in
        let r = may_goes ts reference kinds.Ampersand (λ e. cc) (h.0 + 1) h.1 h.4 in
        (h.0, h.1, reads_cut key false loosest at h.0 (omega (arith, i.0, r.0)) h.2, is h.0 kinds.DoubleArrow (omega (arith, i.0, r.0)) h.3, may reference kinds.Ampersand (h.0 + 1) h.1 (omega (arith, i.0)) h.4, reads_cut e true loosest h.1 to le h.5)
    item_cut (Parameter visibility type reference variadic t value) parameter at to le h =
        let b = may_type_goes ts type h.0 h.1 h.5 in
        let c = may_goes ts reference kinds.Ampersand (λ e. cc) h.1 h.2 h.6 in
        let d = may_goes ts variadic kinds.Ellipsis (λ e. cc) h.2 h.3 h.7 in
        let e = default_goes ts S value (h.3 + 1) to h.10 in (
          h.0,
          h.1,
          h.2,
          h.3,
          visible visibility at h.0 (omega (arith, b.0, c.0, d.0, e.0)) h.4,
          may_type type h.0 h.1 (omega (arith, c.0, d.0, e.0)) h.5,
          may reference kinds.Ampersand h.1 h.2 (omega (arith, d.0, e.0)) h.6,
          may variadic kinds.Ellipsis h.2 h.3 (omega (arith, e.0)) h.7,
          stand h.3 t (omega (arith, e.0)) h.8,
          is h.3 kinds.Variable (omega (arith, e.0)) h.9,
          default_cut value (h.3 + 1) to le h.10,
        )
    item_cut (Captured t) captured at to le h = (stand at t (omega (arith, h.2)) h.0, is at kinds.Variable (omega (arith, h.2)) h.1, h.2)
    item_cut (Arm conditions e) arm at to le h =
        let i = tree_rises e (h.0 + 1) to h.4 in
        (h.0, h.1, items_cut conditions expression at h.0 (omega (arith, i)) h.2, is h.0 kinds.DoubleArrow (omega (arith, i)) h.3, reads_cut e false loosest (h.0 + 1) to le h.4)
    item_cut (DefaultArm comma e) arm at to le h =
        let i = tree_rises e (h.0 + 1) to h.4 in
        let r = may_goes ts comma kinds.Comma (λ e. cc) (at + 1) h.0 h.2 in
        (h.0, is at kinds.Default (omega (arith, i, r.0)) h.1, may comma kinds.Comma (at + 1) h.0 (omega (arith, i)) h.2, is h.0 kinds.DoubleArrow (omega (arith, i)) h.3, reads_cut e false loosest (h.0 + 1) to le h.4)
    item_cut _ _ at to le h = absurd h

    default_cut : (value : Default) (at to : ℕ) → to ≤ m → Defaults ts S value at to → Defaults us T value at to
    default_cut no_default at to le h = h
    default_cut (default e) at to le h = let i = tree_rises e (at + 1) to h.1 in (is at kinds.Assign (omega (arith, i)) h.0, reads_cut e false loosest (at + 1) to le h.1)

    arguments_cut : (es : Arguments) (callable : Bool) (at to : ℕ) → to ≤ m → MayBeCalled ts S callable es at to → MayBeCalled us T callable es at to
    arguments_cut no_arguments callable at to le h = (h.0, λ c. stop_one 1 to le (h.1 c))
    arguments_cut (arguments es) callable at to le h =
        (h.0, between kinds.LeftParenthesis kinds.RightParenthesis (Lists ts S argument es) (Lists us T argument es) at to le (list_rises es argument (at + 1)) (λ b l r. items_cut es argument (at + 1) b l r) h.1)

    class_cut : (class : ClassReference) (at to : ℕ) → to ≤ m → Classes ts S class at to → Classes us T class at to
    class_cut (NamedClass t) at to le h = (stand at t (omega (arith, h.2)) h.0, h.1, h.2, stop_two 2 to le h.3)
    class_cut (VariableClass t ss) at to le h =
        let g = steps_rise ss class_suffix (at + 1) to h.2 in
        (stand at t (omega (arith, g)) h.0, is at kinds.Variable (omega (arith, g)) h.1, steps_cut ss class_suffix (at + 1) to le h.2, stop_two 3 to le h.3)
    class_cut (ScopedClass t u ss) at to le h =
        let g = steps_rise ss class_suffix (at + 3) to h.5 in
        (stand at t (omega (arith, g)) h.0, h.1, is (at + 1) kinds.DoubleColon (omega (arith, g)) h.2, stand (at + 2) u (omega (arith, g)) h.3, is (at + 2) kinds.Variable (omega (arith, g)) h.4, steps_cut ss class_suffix (at + 3) to le h.5, stop_two 3 to le h.6)
    class_cut (ComputedClass e) at to le h = between kinds.LeftParenthesis kinds.RightParenthesis (In e) (Out e) at to le (tree_rises e (at + 1)) (λ b l r. reads_cut e false loosest (at + 1) b l r) h

    member_cut : (name : MemberName) (at to : ℕ) → to ≤ m → Members ts S name at to → Members us T name at to
    member_cut (NamedMember t) at to le h = (stand at t (omega (arith, h.2)) h.0, h.1, h.2)
    member_cut (ComputedMember e) at to le h = between kinds.LeftBrace kinds.RightBrace (In e) (Out e) at to le (tree_rises e (at + 1)) (λ b l r. reads_cut e false loosest (at + 1) b l r) h

    steps_cut : (ss : Steps) (sort : StepSort) (at to : ℕ) → to ≤ m → Repeats ts S sort ss at to → Repeats us T sort ss at to
    steps_cut no_step sort at to le h = h
    steps_cut (step x xs) sort at to le h =
        let g = steps_rise xs sort h.0 to h.2 in
        (h.0, step_cut x sort at h.0 (omega (arith, g)) h.1, steps_cut xs sort h.0 to le h.2)

    step_cut : (x : Step) (sort : StepSort) (at to : ℕ) → to ≤ m → StepReads ts S sort x at to → StepReads us T sort x at to
    step_cut Push sort at to le h = (h.0, is at kinds.LeftBracket (omega (arith, h.3)) h.1, is (at + 1) kinds.RightBracket (omega (arith, h.3)) h.2, h.3)
    step_cut (Index e) sort at to le h = (h.0, between kinds.LeftBracket kinds.RightBracket (In e) (Out e) at to le (tree_rises e (at + 1)) (λ b l r. reads_cut e false loosest (at + 1) b l r) h.1)
    step_cut (Property nullsafe name es) sort at to le h =
        let i = member_inside ts S name (at + 1) h.0 h.3 in
        let g = arguments_go ts S es (takes_arguments sort) h.0 to h.4 in
        (h.0, h.1, is at (arrow nullsafe) (omega (arith, i.0, g.0)) h.2, member_cut name (at + 1) h.0 (omega (arith, g.0)) h.3, arguments_cut es (takes_arguments sort) h.0 to le h.4)
    step_cut (Scoped t es) sort at to le h =
        let g = arguments_go ts S es (takes_arguments sort) (at + 2) to h.3 in
        (h.0, is at kinds.DoubleColon (omega (arith, g.0)) h.1, stand (at + 1) t (omega (arith, g.0)) h.2, arguments_cut es (takes_arguments sort) (at + 2) to le h.3)
    step_cut (Call es) sort at to le h =
        (h.0, between kinds.LeftParenthesis kinds.RightParenthesis (Lists ts S argument es) (Lists us T argument es) at to le (list_rises es argument (at + 1)) (λ b l r. items_cut es argument (at + 1) b l r) h.1)
    step_cut Increment sort at to le h = (h.0, is at kinds.Increment (omega (arith, h.2)) h.1, h.2)
    step_cut Decrement sort at to le h = (h.0, is at kinds.Decrement (omega (arith, h.2)) h.1, h.2)
    step_cut (Operation sign o e) sort at to le h =
        let i = reads_inside ts S e false (tighter (binary_stratum o)) h.0 to h.3 in
        (h.0, h.1, operates sign o at h.0 (omega (arith, i.0)) h.2, reads_cut e false (tighter (binary_stratum o)) h.0 to le h.3)
    step_cut (Part t) sort at to le h = (h.0, stand at t (omega (arith, h.3)) h.1, h.2, h.3)
    step_cut (Inserted e) sort at to le h = (h.0, between kinds.InsertionStart kinds.InsertionEnd (In e) (Out e) at to le (tree_rises e (at + 1)) (λ b l r. reads_cut e false loosest (at + 1) b l r) h.1)
    step_cut (Further x) (further sort) at to le h =
        let i = item_inside ts S x sort (at + 1) to h.1 in
        (is at kinds.Comma (omega (arith, i.0)) h.0, item_cut x sort (at + 1) to le h.1)
    step_cut (Further x) _ at to le h = absurd h

-- ---- the first m tokens

take_get : (xs : List Token) (m i : ℕ) → i < m → slice_get (take m xs) i ≡ slice_get xs i
take_get xs zero i h = absurd (omega arith)
take_get [] (suc m) i h = refl
take_get (x ∷ xs) (suc m) zero h = refl
take_get (x ∷ xs) (suc m) (suc i) h = take_get xs m i (omega arith)

take_past : (xs : List Token) (m : ℕ) → slice_get (take m xs) m ≡ None
take_past xs zero = refl
take_past [] (suc m) = refl
take_past (x ∷ xs) (suc m) = take_past xs m

kind_past : (xs : List Token) (m : ℕ) → kind_at (take m xs) m ≡ kinds.End
unfolding kind_at
kind_past xs m = ap kind_of (take_past xs m)

kind_same : (xs us : List Token) (i : ℕ) → slice_get us i ≡ slice_get xs i → kind_at us i ≡ kind_at xs i
unfolding kind_at
kind_same xs us i e = ap kind_of e

segment : (f n m : ℕ) (xs : List Token) → f + n ≤ m → take n (drop f (take m xs)) ≡ take n (drop f xs)
segment zero zero m xs h = refl
segment zero (suc n) zero xs h = absurd (omega arith)
segment zero (suc n) (suc m) [] h = refl
segment zero (suc n) (suc m) (x ∷ xs) h = ap (λ r. x ∷ r) (segment zero n m xs (omega arith))
segment (suc f) n zero xs h = absurd (omega arith)
segment (suc f) n (suc m) [] h = refl
segment (suc f) n (suc m) (x ∷ xs) h = segment f n m xs (omega arith)

braces_same : (xs : List Token) (m from to : ℕ) → from ≤ to → to ≤ m → braces_open (take m xs) from to ≡ braces_open xs from to
braces_same xs m from to up le = ap (λ r. fold braces_behind 1 r) (segment from (to - from) m xs (omega arith))

take_matched : (xs : List Token) (m first last : ℕ) → last < m → IsMatched xs first last → IsMatched (take m xs) first last
take_matched xs m first last lt h = record {
  rises = h.rises;
  closed = braces_same xs m first (last + 1) (let up = h.rises in omega (arith, up)) (omega arith) ∙ h.closed;
  inside = λ at lo hi. let P : ℕ → Type 0 = λ y. 0 < y in subst P (sym (braces_same xs m first at lo (omega arith))) (h.inside at lo hi);
}

-- ---- which strata go on, by a next token that may have gone

question_alike : (y : TokenKind) → y ≢ kinds.Colon → joins kinds.Question kinds.End ≡ joins kinds.Question y
question_alike kinds.Colon apart = absurd (apart refl)
question_alike y apart = refl

colon_alike : (y : TokenKind) → (joins kinds.DoubleColon kinds.End ≡ joins kinds.DoubleColon y) ⊎ ((joins kinds.DoubleColon kinds.End ≡ 4) × (joins kinds.DoubleColon y ≡ 2))
colon_alike kinds.Variable = inr (refl, refl)
colon_alike y = inl refl

end_alike : (k y : TokenKind) → y ≢ kinds.Colon → (joins k kinds.End ≡ joins k y) ⊎ ((joins k kinds.End ≡ 4) × (joins k y ≡ 2))
end_alike kinds.Question y apart = inl (question_alike y apart)
end_alike kinds.DoubleColon y apart = colon_alike y
end_alike k y apart = inl refl

abbrev Next : TokenKind → TokenKind → Type 0
Next x y = (x ≡ y) ⊎ ((x ≡ kinds.End) × (y ≢ kinds.Colon))

alike : (k x y : TokenKind) → Next x y → (joins k x ≡ joins k y) ⊎ ((joins k x ≡ 4) × (joins k y ≡ 2))
alike k x y (inl e) = inl (ap (joins k) e)
alike k x y (inr e) = let P : TokenKind → Type 0 = λ z. (joins k z ≡ joins k y) ⊎ ((joins k z ≡ 4) × (joins k y ≡ 2)) in subst P (sym e.0) (end_alike k y e.1)

near_by : (low k j i : ℕ) → low ≢ 3 → low ≢ 4 → (i ≡ j) ⊎ ((i ≡ 4) × (j ≡ 2)) → (low ≤ j → k < j) → low ≤ i → k < i
near_by low k j i three four (inl e) near le = let far = near (omega (arith, e)) in omega (arith, e, far)
near_by low k j i three four (inr e) near le = let far = near (grind (arith, three, four, e.0, e.1)) in omega (arith, e.0, e.1, far)

is_colon : (k : TokenKind) → (k ≡ kinds.Colon) ⊎ (k ≢ kinds.Colon)
is_colon kinds.Colon = inl refl
is_colon k = inr (λ e. cc)

-- ---- the longest tree

module _ (ts us : List Token) (end : ℕ) (same : (i : ℕ) → i < end → slice_get us i ≡ slice_get ts i) (next : Next (kind_at us end) (kind_at ts end)) (stop : IsEnd us end)
    (matched : (first last : ℕ) → last < end → IsMatched ts first last → IsMatched us first last) where
  next_at : (i : ℕ) → i < end → Next (kind_at us (i + 1)) (kind_at ts (i + 1))
  next_at i lt =
      let P : ℕ → Type 0 = λ y. Next (kind_at us y) (kind_at ts y) in
      let le : i + 1 ≤ end = omega arith in
      elim (eq-or-lt_of_le le) [ inl e ↦ subst P (sym e) next | inr far ↦ inl (kind_same ts us (i + 1) (same (i + 1) far)) ]

  near_cut : (low k i : ℕ) → low ≢ 3 → low ≢ 4 → i < end → Near ts low k i → Near us low k i
  near_cut low k i three four lt near =
      let P : TokenKind → Type 0 = λ z. low ≤ joins z (kind_at us (i + 1)) → k < joins z (kind_at us (i + 1)) in
      subst P (sym (kind_same ts us i (same i lt))) (near_by low k (J ts i) (joins (kind_at ts i) (kind_at us (i + 1))) three four (alike (kind_at ts i) (kind_at us (i + 1)) (kind_at ts (i + 1)) (next_at i lt)) near)

  free_colon : Next (kind_at us end) (kind_at ts end) → kind_at us end ≡ kinds.Colon → kind_at ts end ≡ kinds.Colon
  free_colon (inl e) h = sym e ∙ h
  free_colon (inr e) h = absurd (cc (e.0, h))

  shorter_cut : (p : Bool) (k : ℕ) (g t : Tree) (at to : ℕ) → 5 ≤ k → k ≤ loosest → Greedy ts p k g at to → Reads ts Free p k t at end → to < end → ⊥
  shorter_cut p k g t at to lo hi h i lt =
      let f = some_greedy us p k t at end lo hi (reads_cut ts us Free Free end same (free_colon next) matched (λ low j b x y z r. tt) t p k at end (omega arith) i) stop in
      let c = reads_cut ts us (Near ts) (Near us) to (λ b q. same b (omega arith)) (λ q. sym (kind_same ts us to (same to lt)) ∙ q) (λ a b l r. matched a b (omega arith) r) (λ low j b x y z r. near_cut low j b x y (omega arith) r) g p k at to (omega arith) h in
      let e = one_is_picked us g f.0 p k at to end lo hi c f.1 in
      omega (arith, e.1)

shorter : (ts : List Token) (p : Bool) (k : ℕ) (g t : Tree) (at to end : ℕ) → 5 ≤ k → k ≤ loosest → Greedy ts p k g at to → Reads ts Free p k t at end → to < end → ⊥
shorter ts p k g t at to end lo hi h i lt =
    elim (is_colon (kind_at ts end)) [
      | inl e ↦
          let q = kind_same ts (take (end + 1) ts) end (take_get ts (end + 1) end (omega arith)) in
          let P : TokenKind → Type 0 = λ y. IsTrue (is_end y) in
          shorter_cut ts (take (end + 1) ts) end (λ b l. take_get ts (end + 1) b (omega arith)) (inl q) (subst P (sym (q ∙ e)) refl) (λ a b l r. take_matched ts (end + 1) a b (omega arith) r) p k g t at to lo hi h i lt
      | inr apart ↦
          let q = kind_past ts end in
          let P : TokenKind → Type 0 = λ y. IsTrue (is_end y) in
          shorter_cut ts (take end ts) end (λ b l. take_get ts end b l) (inr (q, apart)) (subst P (sym q) refl) (λ a b l r. take_matched ts end a b l r) p k g t at to lo hi h i lt
    ]

-- A greedy tree is at least as long as any tree of its stratum from the same place.
pub longest_of : (ts : List Token) (p : Bool) (k : ℕ) (g t : Tree) (at to end : ℕ) → 5 ≤ k → k ≤ loosest → Greedy ts p k g at to → Reads ts Free p k t at end → end ≤ to
longest_of ts p k g t at to end lo hi h i = elim (cases_lt to end) [ inl lt ↦ absurd (shorter ts p k g t at to end lo hi h i lt) | inr le ↦ le ]

-- Up to an end there is one place.
pub exact_end : (ts : List Token) (p : Bool) (k : ℕ) (g t : Tree) (at to end : ℕ) → 5 ≤ k → k ≤ loosest → Greedy ts p k g at to → Reads ts Free p k t at end → IsEnd ts end → to ≡ end
exact_end ts p k g t at to end lo hi h i e = let f = some_greedy ts p k t at end lo hi i e in (one_is_picked ts g f.0 p k at to end lo hi h f.1).1
