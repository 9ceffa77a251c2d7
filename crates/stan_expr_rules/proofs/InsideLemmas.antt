-- Each part of a tree ends where it begins or behind that, and the tokens that it takes stand in the list.
use Rattle.std.proofs.Common.{◌≡◌, ◌≢◌, ℕ, ◌+◌, ◌-◌, ◌<◌, ◌≤◌, Bool, true, false, List, [], ◌∷◌, length, Option, Some, None, refl, sym, ap, ◌∙◌, inl, inr, arith}
use Rattle.std.specs.Prelude.{slice_get}
use Rattle.std.proofs.lemmas.Bool.{cases_lt}
use Rattle.std.proofs.lemmas.Option.{slice_get_within}
use Rattle.stan_model_grammar.specs.declared.operators.ArrayStyle.TheVariants as styles
use Rattle.stan_model_grammar.specs.declared.operators.Visibility.{Visibility}
use Rattle.stan_model_grammar.specs.declared.token.Token.{Token}
use Rattle.stan_model_grammar.specs.declared.token.TokenKind.{TokenKind}
use Rattle.stan_model_grammar.specs.declared.token.TokenKind.TheVariants as kinds
use Rattle.stan_model_grammar.specs.Strata.{kind_of, kind_at, visibility_of, loosest, prefix_stratum, binary_stratum, fixity, tighter, right_side}
use Rattle.stan_model_grammar.specs.Trees.{TypeTree, Nullable, Union, Tree, node, Form, Single, Brackets, Array, IsSet, Empty, Exit, New, Match, Closure, Arrow, Text, Post, Prefix, Assignment, Chain, Binary, Conditional, Items, no_item, items, Item, Positional, Spread, Named, Element, KeyedElement, Parameter, Captured, Arm, DefaultArm, Default, no_default, default, Arguments, no_arguments, arguments, ClassReference, NamedClass, VariableClass, ScopedClass, ComputedClass, MemberName, NamedMember, ComputedMember, Steps, no_step, step, Step, Push, Index, Property, Scoped, Call, Increment, Decrement, Operation, Part, Inserted, Further, Body, Held, Read}
use Rattle.stan_model_grammar.specs.Expressions.{ItemSort, argument, element, expression, parameter, captured, arm, StepSort, suffix, class_suffix, part, operation, further, takes_arguments, has_items, Is, Stands, May, MayBeVisible, TypeName, Alternatives, Types, MayBeTyped, MayReturn, MayCapture, Reads, Forms, Lists, ItemReads, Defaults, MayBeCalled, Classes, Members, Repeats, StepReads, Bodies, Spells}

module _ (ts : List Token) where
  -- ---- places of the list

  abbrev pub Inside : ℕ → ℕ → Type 0
  Inside at to = (at < to) × (to ≤ length ts)

  -- the same of a part that may take no token
  abbrev pub Goes : ℕ → ℕ → Type 0
  Goes at to = (at ≤ to) × (at < to → to ≤ length ts)

  pub goes_within : (at to : ℕ) → at ≤ length ts → Goes at to → to ≤ length ts
  goes_within at to le g = elim (cases_lt at to) [ inl lt ↦ g.1 lt | inr ge ↦ omega (arith, le, ge) ]

  pub nothing_goes : (at to : ℕ) → at ≡ to → Goes at to
  nothing_goes at to e = (omega (arith, e), λ lt. absurd (omega (arith, e, lt)))

  pub inside_goes : (at to : ℕ) → Inside at to → Goes at to
  inside_goes at to i = (omega (arith, i.0), λ lt. i.1)

  pub inside_from : (low at to : ℕ) → low ≤ at → Inside at to → Inside low to
  inside_from low at to le i = (omega (arith, le, i.0), i.1)

  pub inside_then : (at b to : ℕ) → Inside at b → Goes b to → Inside at to
  inside_then at b to i g = (omega (arith, i.0, g.0), goes_within b to i.1 g)

  -- A place where something stands is one of the list.
  kind_of_inside : (at : ℕ) (o : Option Token) → slice_get ts at ≡ o → kind_of o ≢ kinds.End → at < length ts
  kind_of_inside at None e some = absurd (some refl)
  kind_of_inside at (Some t) e some = slice_get_within ts at t e

  pub kind_inside : (at : ℕ) → kind_at ts at ≢ kinds.End → at < length ts
  unfolding kind_at
  kind_inside at some = kind_of_inside at (slice_get ts at) refl some

  pub is_inside : (at : ℕ) (kind : TokenKind) → kind ≢ kinds.End → Is ts at kind → at < length ts
  is_inside at kind some e = kind_inside at (λ none. some (sym e ∙ none))

  pub stands_inside : (at : ℕ) (t : Token) → Stands ts at t → at < length ts
  stands_inside at t e = slice_get_within ts at t e

  pub stands_kind : (at : ℕ) (t : Token) → Stands ts at t → kind_at ts at ≡ t.kind
  unfolding kind_at
  stands_kind at t e = ap kind_of e

  pub one_inside : (at to : ℕ) → at < length ts → to ≡ at + 1 → Inside at to
  one_inside at to lt e = (omega (arith, e), omega (arith, lt, e))

  -- what stands between a token and one that closes it at b
  pub between_inside : (at b to : ℕ) (closing : TokenKind) → closing ≢ kinds.End → Goes (at + 1) b → Is ts b closing → to ≡ b + 1 → Inside at to
  between_inside at b to closing some g is e =
      let i = is_inside b closing some is in
      (omega (arith, g.0, e), omega (arith, i, e))

  -- ---- parts without expressions

  pub may_goes : (stands : Bool) (kind : TokenKind) → kind ≢ kinds.End → (at to : ℕ) → May ts stands kind at to → Goes at to
  may_goes true kind some at to h = inside_goes at to (one_inside at to (is_inside at kind some h.0) h.1)
  may_goes false kind some at to h = nothing_goes at to h

  pub visibility_goes : (visibility : Option Visibility) (at to : ℕ) → MayBeVisible ts visibility at to → Goes at to
  visibility_goes None at to h = nothing_goes at to h
  visibility_goes (Some v) at to h = inside_goes at to (one_inside at to (kind_inside at (λ none. let e : visibility_of (kind_at ts at) ≡ None = ap visibility_of none in cc (e, h.0))) h.1)

  pub type_name_inside : (t : Token) (at to : ℕ) → TypeName ts t at to → Inside at to
  type_name_inside t at to h = one_inside at to (stands_inside at t h.0) h.2

  pub alternatives_go : (more : List Token) (at to : ℕ) → Alternatives ts more at to → Goes at to
  alternatives_go [] at to h = nothing_goes at to h
  alternatives_go (t ∷ more) at to h =
      let i = inside_from at (at + 1) h.0 (omega arith) (type_name_inside t (at + 1) h.0 h.2) in
      inside_goes at to (inside_then at h.0 to i (alternatives_go more h.0 to h.3))

  pub type_inside : (type : TypeTree) (at to : ℕ) → Types ts type at to → Inside at to
  type_inside (Nullable first t) at to h = inside_from at (at + 1) to (omega arith) (type_name_inside t (at + 1) to h.2)
  type_inside (Union t more) at to h = inside_then at h.0 to (type_name_inside t at h.0 h.1) (alternatives_go more h.0 to h.2)

  pub may_type_goes : (type : Option TypeTree) (at to : ℕ) → MayBeTyped ts type at to → Goes at to
  may_type_goes None at to h = nothing_goes at to h
  may_type_goes (Some type) at to h = inside_goes at to (type_inside type at to h)

  pub return_goes : (type : Option TypeTree) (at to : ℕ) → MayReturn ts type at to → Goes at to
  return_goes None at to h = nothing_goes at to h
  return_goes (Some type) at to h = inside_goes at to (inside_from at (at + 1) to (omega arith) (type_inside type (at + 1) to h.1))

  -- ---- expressions

  module _ (Stops : ℕ → ℕ → ℕ → Type 0) where
    pub body_inside : (body : Body) (at to : ℕ) → Bodies ts Stops body at to → Inside at to
    body_inside (Held first last) at to h =
        let i = is_inside last kinds.RightBrace (λ e. cc) h.3 in
        (omega (arith, h.1, h.2.rises, h.4), omega (arith, h.4, i))
    body_inside (Read statements) at to h = absurd h

    mutual
      pub reads_inside : (t : Tree) (pattern : Bool) (k at to : ℕ) → Reads ts Stops pattern k t at to → Inside at to
      reads_inside (node t f) pattern k at to h = form_inside f pattern k at to (stands_inside at t h.0) h.1

      -- of an expression whose first token stands
      pub form_inside : (f : Form) (pattern : Bool) (k at to : ℕ) → at < length ts → Forms ts Stops pattern k f at to → Inside at to
      form_inside (Single leaf) pattern k at to lt h = one_inside at to lt h.1
      form_inside (Brackets e) pattern k at to lt h =
          between_inside at h.0.0 to kinds.RightParenthesis (λ e. cc) (inside_goes (at + 1) h.0.0 (reads_inside e false loosest (at + 1) h.0.0 h.0.2)) h.0.3 h.0.4
      form_inside (Array styles.Brackets es) pattern k at to lt h =
          between_inside at h.1.0 to kinds.RightBracket (λ e. cc) (items_go es element (at + 1) h.1.0 h.1.2) h.1.3 h.1.4
      form_inside (Array styles.Array es) pattern k at to lt h =
          let i = between_inside (at + 1) h.2.0 to kinds.RightParenthesis (λ e. cc) (items_go es element (at + 1 + 1) h.2.0 h.2.2) h.2.3 h.2.4 in
          inside_from at (at + 1) to (omega arith) i
      form_inside (Array styles.List es) pattern k at to lt h =
          let i = between_inside (at + 1) h.2.0 to kinds.RightParenthesis (λ e. cc) (items_go es element (at + 1 + 1) h.2.0 h.2.2) h.2.3 h.2.4 in
          inside_from at (at + 1) to (omega arith) i
      form_inside (IsSet es) pattern k at to lt h =
          let i = between_inside (at + 1) h.2.0 to kinds.RightParenthesis (λ e. cc) (items_go es expression (at + 1 + 1) h.2.0 h.2.2) h.2.3 h.2.4 in
          inside_from at (at + 1) to (omega arith) i
      form_inside (Empty e) pattern k at to lt h =
          let r = inside_goes (at + 1 + 1) h.1.0 (reads_inside e false loosest (at + 1 + 1) h.1.0 h.1.2) in
          let i = between_inside (at + 1) h.1.0 to kinds.RightParenthesis (λ e. cc) r h.1.3 h.1.4 in
          inside_from at (at + 1) to (omega arith) i
      form_inside (Exit es) pattern k at to lt h = inside_then at (at + 1) to (one_inside at (at + 1) lt refl) (arguments_go es true (at + 1) to h.1)
      form_inside (New class es) pattern k at to lt h =
          let i = inside_from at (at + 1) h.0 (omega arith) (class_inside class (at + 1) h.0 h.3) in
          inside_then at h.0 to i (arguments_go es true h.0 to h.4)
      form_inside (Match e arms) pattern k at to lt h =
          let r = inside_goes (at + 1 + 1) h.2.0 (reads_inside e false loosest (at + 1 + 1) h.2.0 h.2.2) in
          let i = between_inside (at + 1) h.2.0 h.0 kinds.RightParenthesis (λ e. cc) r h.2.3 h.2.4 in
          let j = between_inside h.0 h.3.0 to kinds.RightBrace (λ e. cc) (items_go arms arm (h.0 + 1) h.3.0 h.3.2) h.3.3 h.3.4 in
          inside_from at h.0 to (omega (arith, i.0)) j
      form_inside (Closure static reference parameters captures type body) pattern k at to lt h =
          let a = may_goes static kinds.Static (λ e. cc) at h.0 h.5 in
          let b = may_goes reference kinds.Ampersand (λ e. cc) (h.0 + 1) h.1 h.7 in
          let c = between_inside h.1 h.8.0 h.2 kinds.RightParenthesis (λ e. cc) (items_go parameters parameter (h.1 + 1) h.8.0 h.8.2) h.8.3 h.8.4 in
          let d = captures_go captures h.2 h.3 h.9 in
          let e = return_goes type h.3 h.4 h.10 in
          inside_from at h.4 to (omega (arith, a.0, b.0, c.0, d.0, e.0)) (body_inside body h.4 to h.11)
      form_inside (Arrow static reference parameters type e) pattern k at to lt h =
          let a = may_goes static kinds.Static (λ e. cc) at h.0 h.4 in
          let b = may_goes reference kinds.Ampersand (λ e. cc) (h.0 + 1) h.1 h.6 in
          let c = between_inside h.1 h.7.0 h.2 kinds.RightParenthesis (λ e. cc) (items_go parameters parameter (h.1 + 1) h.7.0 h.7.2) h.7.3 h.7.4 in
          let d = return_goes type h.2 h.3 h.8 in
          inside_from at (h.3 + 1) to (omega (arith, a.0, b.0, c.0, d.0)) (reads_inside e false loosest (h.3 + 1) to h.10)
      form_inside (Text parts) pattern k at to lt h =
          between_inside at h.0.0 to kinds.TextEnd (λ e. cc) (steps_go parts part (at + 1) h.0.0 h.0.2) h.0.3 h.0.4
      form_inside (Post e ss) pattern k at to lt h = inside_then at h.0 to (reads_inside e false 0 at h.0 h.3) (steps_go ss suffix h.0 to h.4)
      form_inside (Prefix o e) pattern k at to lt h = inside_from at (at + 1) to (omega arith) (reads_inside e false (prefix_stratum o) (at + 1) to h.2)
      form_inside (Assignment target o e) pattern k at to lt h =
          let r = reads_inside target true 4 at h.0 h.4 in
          inside_from at h.1 to (omega (arith, r.0, h.5.1)) (reads_inside e false 24 h.1 to h.6)
      form_inside (Chain j e ss) pattern k at to lt h =
          inside_then at h.0 to (reads_inside e false (tighter j) at h.0 h.4) (steps_go ss (operation j) h.0 to h.5)
      form_inside (Binary d sign o e) pattern k at to lt h =
          let r = reads_inside d false (binary_stratum o - 1) at h.0 h.4 in
          inside_from at h.1 to (omega (arith, r.0, h.5.1)) (reads_inside e false (right_side (fixity o) (binary_stratum o)) h.1 to h.6)
      form_inside (Conditional c d e) pattern k at to lt h =
          let r = reads_inside c false 21 at h.0 h.3 in
          let s = reads_inside d false loosest (h.0 + 1) h.1 h.5 in
          inside_from at (h.1 + 1) to (omega (arith, r.0, s.0)) (reads_inside e false 21 (h.1 + 1) to h.7)

      pub items_go : (es : Items) (sort : ItemSort) (at to : ℕ) → Lists ts Stops sort es at to → Goes at to
      items_go no_item sort at to h = nothing_goes at to h
      items_go (items x xs comma) sort at to h =
          let i = inside_then at h.0 h.1 (item_inside x sort at h.0 h.2) (steps_go xs (further sort) h.0 h.1 h.3) in
          inside_goes at to (inside_then at h.1 to i (may_goes comma kinds.Comma (λ e. cc) h.1 to h.4))

      pub captures_go : (es : Items) (at to : ℕ) → MayCapture ts (has_items es) (Lists ts Stops captured es) at to → Goes at to
      captures_go no_item at to h = nothing_goes at to h
      captures_go (items x xs comma) at to h =
          let v = h.1.2 in
          let i = inside_then (at + 1 + 1) v.0 v.1 (item_inside x captured (at + 1 + 1) v.0 v.2) (steps_go xs (further captured) v.0 v.1 v.3) in
          let j = inside_then (at + 1 + 1) v.1 h.1.0 i (may_goes comma kinds.Comma (λ e. cc) v.1 h.1.0 v.4) in
          let w = between_inside (at + 1) h.1.0 to kinds.RightParenthesis (λ e. cc) (inside_goes (at + 1 + 1) h.1.0 j) h.1.3 h.1.4 in
          inside_goes at to (inside_from at (at + 1) to (omega arith) w)

      pub item_inside : (x : Item) (sort : ItemSort) (at to : ℕ) → ItemReads ts Stops sort x at to → Inside at to
      item_inside (Positional e) argument at to h = reads_inside e false loosest at to h.1
      item_inside (Positional e) expression at to h = reads_inside e false loosest at to h
      item_inside (Spread e) argument at to h = inside_from at (at + 1) to (omega arith) (reads_inside e false loosest (at + 1) to h.1)
      item_inside (Spread e) element at to h = inside_from at (at + 1) to (omega arith) (reads_inside e false loosest (at + 1) to h.1)
      item_inside (Named t e) argument at to h = inside_from at (at + 2) to (omega arith) (reads_inside e false loosest (at + 2) to h.3)
      item_inside (Element reference e) element at to h =
          let a = may_goes reference kinds.Ampersand (λ e. cc) at h.0 h.1 in
          inside_from at h.0 to a.0 (reads_inside e true loosest h.0 to h.2)
      item_inside (KeyedElement key reference e) element at to h =
          let r = reads_inside key false loosest at h.0 h.2 in
          let a = may_goes reference kinds.Ampersand (λ e. cc) (h.0 + 1) h.1 h.4 in
          inside_from at h.1 to (omega (arith, r.0, a.0)) (reads_inside e true loosest h.1 to h.5)
      item_inside (Parameter visibility type reference variadic t value) parameter at to h =
          let a = visibility_goes visibility at h.0 h.4 in
          let b = may_type_goes type h.0 h.1 h.5 in
          let c = may_goes reference kinds.Ampersand (λ e. cc) h.1 h.2 h.6 in
          let d = may_goes variadic kinds.Ellipsis (λ e. cc) h.2 h.3 h.7 in
          let i = one_inside h.3 (h.3 + 1) (stands_inside h.3 t h.8) refl in
          inside_from at h.3 to (omega (arith, a.0, b.0, c.0, d.0)) (inside_then h.3 (h.3 + 1) to i (default_goes value (h.3 + 1) to h.10))
      item_inside (Captured t) captured at to h = one_inside at to (stands_inside at t h.0) h.2
      item_inside (Arm conditions e) arm at to h =
          let g = items_go conditions expression at h.0 h.2 in
          inside_from at (h.0 + 1) to (omega (arith, g.0)) (reads_inside e false loosest (h.0 + 1) to h.4)
      item_inside (DefaultArm comma e) arm at to h =
          let g = may_goes comma kinds.Comma (λ e. cc) (at + 1) h.0 h.2 in
          inside_from at (h.0 + 1) to (omega (arith, g.0)) (reads_inside e false loosest (h.0 + 1) to h.4)
      item_inside _ _ at to h = absurd h

      pub default_goes : (value : Default) (at to : ℕ) → Defaults ts Stops value at to → Goes at to
      default_goes no_default at to h = nothing_goes at to h
      default_goes (default e) at to h = inside_goes at to (inside_from at (at + 1) to (omega arith) (reads_inside e false loosest (at + 1) to h.1))

      pub arguments_go : (es : Arguments) (callable : Bool) (at to : ℕ) → MayBeCalled ts Stops callable es at to → Goes at to
      arguments_go no_arguments callable at to h = nothing_goes at to h.0
      arguments_go (arguments es) callable at to h =
          inside_goes at to (between_inside at h.1.0 to kinds.RightParenthesis (λ e. cc) (items_go es argument (at + 1) h.1.0 h.1.2) h.1.3 h.1.4)

      pub class_inside : (class : ClassReference) (at to : ℕ) → Classes ts Stops class at to → Inside at to
      class_inside (NamedClass t) at to h = one_inside at to (stands_inside at t h.0) h.2
      class_inside (VariableClass t ss) at to h =
          inside_then at (at + 1) to (one_inside at (at + 1) (stands_inside at t h.0) refl) (steps_go ss class_suffix (at + 1) to h.2)
      class_inside (ScopedClass t u ss) at to h =
          let i = one_inside (at + 2) (at + 3) (stands_inside (at + 2) u h.3) (omega arith) in
          inside_from at (at + 2) to (omega arith) (inside_then (at + 2) (at + 3) to i (steps_go ss class_suffix (at + 3) to h.5))
      class_inside (ComputedClass e) at to h =
          between_inside at h.0 to kinds.RightParenthesis (λ e. cc) (inside_goes (at + 1) h.0 (reads_inside e false loosest (at + 1) h.0 h.2)) h.3 h.4

      pub member_inside : (name : MemberName) (at to : ℕ) → Members ts Stops name at to → Inside at to
      member_inside (NamedMember t) at to h = one_inside at to (stands_inside at t h.0) h.2
      member_inside (ComputedMember e) at to h =
          between_inside at h.0 to kinds.RightBrace (λ e. cc) (inside_goes (at + 1) h.0 (reads_inside e false loosest (at + 1) h.0 h.2)) h.3 h.4

      pub steps_go : (ss : Steps) (sort : StepSort) (at to : ℕ) → Repeats ts Stops sort ss at to → Goes at to
      steps_go no_step sort at to h = nothing_goes at to h
      steps_go (step x xs) sort at to h = inside_goes at to (inside_then at h.0 to (step_inside x sort at h.0 h.1) (steps_go xs sort h.0 to h.2))

      pub step_inside : (x : Step) (sort : StepSort) (at to : ℕ) → StepReads ts Stops sort x at to → Inside at to
      step_inside Push sort at to h =
          let i = one_inside (at + 1) to (is_inside (at + 1) kinds.RightBracket (λ e. cc) h.2) (omega (arith, h.3)) in
          inside_from at (at + 1) to (omega arith) i
      step_inside (Index e) sort at to h =
          let r = inside_goes (at + 1) h.1.0 (reads_inside e false loosest (at + 1) h.1.0 h.1.2) in
          between_inside at h.1.0 to kinds.RightBracket (λ e. cc) r h.1.3 h.1.4
      step_inside (Property nullsafe name es) sort at to h =
          let i = inside_from at (at + 1) h.0 (omega arith) (member_inside name (at + 1) h.0 h.3) in
          inside_then at h.0 to i (arguments_go es (takes_arguments sort) h.0 to h.4)
      step_inside (Scoped t es) sort at to h =
          let i = one_inside (at + 1) (at + 2) (stands_inside (at + 1) t h.2) (omega arith) in
          inside_then at (at + 2) to (inside_from at (at + 1) (at + 2) (omega arith) i) (arguments_go es (takes_arguments sort) (at + 2) to h.3)
      step_inside (Call es) sort at to h =
          between_inside at h.1.0 to kinds.RightParenthesis (λ e. cc) (items_go es argument (at + 1) h.1.0 h.1.2) h.1.3 h.1.4
      step_inside Increment sort at to h = one_inside at to (is_inside at kinds.Increment (λ e. cc) h.1) h.2
      step_inside Decrement sort at to h = one_inside at to (is_inside at kinds.Decrement (λ e. cc) h.1) h.2
      step_inside (Operation sign o e) sort at to h =
          inside_from at h.0 to (omega (arith, h.2.1)) (reads_inside e false (tighter (binary_stratum o)) h.0 to h.3)
      step_inside (Part t) sort at to h = one_inside at to (stands_inside at t h.1) h.3
      step_inside (Inserted e) sort at to h =
          let r = inside_goes (at + 1) h.1.0 (reads_inside e false loosest (at + 1) h.1.0 h.1.2) in
          between_inside at h.1.0 to kinds.InsertionEnd (λ e. cc) r h.1.3 h.1.4
      step_inside (Further x) (further sort) at to h = inside_from at (at + 1) to (omega arith) (item_inside x sort (at + 1) to h.1)
      step_inside (Further x) _ at to h = absurd h

pub tree_inside : (ts : List Token) (t : Tree) (at to : ℕ) → Spells ts t at to → (at < to) × (to ≤ length ts)
tree_inside ts t at to h = reads_inside ts (λ low k to. Unit {0}) t false loosest at to h
