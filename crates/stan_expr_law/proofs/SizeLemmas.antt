-- Each part of a tree spells as many tokens as its size says.
use Rattle.std.proofs.Common.{◌≡◌, ℕ, ◌+◌, ◌-◌, Bool, true, false, List, [], ◌∷◌, Option, Some, None, arith}
use Rattle.stan_model_grammar.specs.declared.operators.ArrayStyle.TheVariants as styles
use Rattle.stan_model_grammar.specs.declared.operators.Visibility.{Visibility}
use Rattle.stan_model_grammar.specs.declared.token.Token.{Token}
use Rattle.stan_model_grammar.specs.declared.token.TokenKind.{TokenKind}
use Rattle.stan_model_grammar.specs.Strata.{loosest, prefix_stratum, binary_stratum, fixity, tighter, right_side}
use Rattle.stan_model_grammar.specs.Trees.{TypeTree, Nullable, Union, Tree, node, Form, Single, Brackets, Array, IsSet, Empty, Exit, New, Match, Closure, Arrow, Text, Post, Prefix, Assignment, Chain, Binary, Conditional, Items, no_item, items, Item, Positional, Spread, Named, Element, KeyedElement, Parameter, Captured, Arm, DefaultArm, Default, no_default, default, Arguments, no_arguments, arguments, ClassReference, NamedClass, VariableClass, ScopedClass, ComputedClass, MemberName, NamedMember, ComputedMember, Steps, no_step, step, Step, Push, Index, Property, Scoped, Call, Increment, Decrement, Operation, Part, Inserted, Further, Body, Held, Read}
use Rattle.stan_model_grammar.specs.Expressions.{ItemSort, argument, element, expression, parameter, captured, arm, StepSort, suffix, class_suffix, part, operation, further, takes_arguments, has_items, May, MayBeVisible, Alternatives, Types, MayBeTyped, MayReturn, MayCapture, Reads, Forms, Lists, ItemReads, Defaults, MayBeCalled, Classes, Members, Repeats, StepReads, Bodies, Spells}
use Rattle.stan_model_grammar.specs.Takes.{may_size, visibility_size, alternatives_size, type_size, may_type_size, return_size, body_size, size, form_size, items_size, captures_size, item_size, default_size, arguments_size, class_size, member_size, steps_size, step_size}

module _ (ts : List Token) where
  -- ---- parts without expressions

  pub may_is_size : (stands : Bool) (kind : TokenKind) (at to : ℕ) → May ts stands kind at to → to ≡ at + may_size stands
  may_is_size true kind at to h = h.1
  may_is_size false kind at to h = omega (arith, h)

  pub visibility_is_size : (visibility : Option Visibility) (at to : ℕ) → MayBeVisible ts visibility at to → to ≡ at + visibility_size visibility
  visibility_is_size None at to h = omega (arith, h)
  visibility_is_size (Some v) at to h = h.1

  pub alternatives_are_size : (more : List Token) (at to : ℕ) → Alternatives ts more at to → to ≡ at + alternatives_size more
  alternatives_are_size [] at to h = omega (arith, h)
  alternatives_are_size (t ∷ more) at to h = omega (arith, h.2.2, alternatives_are_size more h.0 to h.3)

  pub type_is_size : (type : TypeTree) (at to : ℕ) → Types ts type at to → to ≡ at + type_size type
  type_is_size (Nullable first t) at to h = omega (arith, h.2.2)
  type_is_size (Union t more) at to h = omega (arith, h.1.2, alternatives_are_size more h.0 to h.2)

  pub may_type_is_size : (type : Option TypeTree) (at to : ℕ) → MayBeTyped ts type at to → to ≡ at + may_type_size type
  may_type_is_size None at to h = omega (arith, h)
  may_type_is_size (Some type) at to h = type_is_size type at to h

  pub return_is_size : (type : Option TypeTree) (at to : ℕ) → MayReturn ts type at to → to ≡ at + return_size type
  return_is_size None at to h = omega (arith, h)
  return_is_size (Some type) at to h = omega (arith, type_is_size type (at + 1) to h.1)

  -- ---- expressions

  module _ (Stops : ℕ → ℕ → ℕ → Type 0) where
    pub body_is_size : (body : Body) (at to : ℕ) → Bodies ts Stops body at to → to ≡ at + body_size body
    body_is_size (Held first last) at to h = omega (arith, h.1, h.2.rises, h.4)
    body_is_size (Read statements) at to h = absurd h

    mutual
      pub reads_size : (t : Tree) (pattern : Bool) (k at to : ℕ) → Reads ts Stops pattern k t at to → to ≡ at + size t
      reads_size (node t f) pattern k at to h = form_is_size f pattern k at to h.1

      pub form_is_size : (f : Form) (pattern : Bool) (k at to : ℕ) → Forms ts Stops pattern k f at to → to ≡ at + form_size f
      form_is_size (Single leaf) pattern k at to h = h.1
      form_is_size (Brackets e) pattern k at to h = omega (arith, h.0.4, reads_size e false loosest (at + 1) h.0.0 h.0.2)
      form_is_size (Array styles.Brackets es) pattern k at to h = omega (arith, h.1.4, items_are_size es element (at + 1) h.1.0 h.1.2)
      form_is_size (Array styles.Array es) pattern k at to h = omega (arith, h.2.4, items_are_size es element (at + 1 + 1) h.2.0 h.2.2)
      form_is_size (Array styles.List es) pattern k at to h = omega (arith, h.2.4, items_are_size es element (at + 1 + 1) h.2.0 h.2.2)
      form_is_size (IsSet es) pattern k at to h = omega (arith, h.2.4, items_are_size es expression (at + 1 + 1) h.2.0 h.2.2)
      form_is_size (Empty e) pattern k at to h = omega (arith, h.1.4, reads_size e false loosest (at + 1 + 1) h.1.0 h.1.2)
      form_is_size (Exit es) pattern k at to h = omega (arith, arguments_are_size es true (at + 1) to h.1)
      form_is_size (New class es) pattern k at to h = omega (arith, class_is_size class (at + 1) h.0 h.3, arguments_are_size es true h.0 to h.4)
      form_is_size (Match e arms) pattern k at to h =
          omega (arith, h.2.4, reads_size e false loosest (at + 1 + 1) h.2.0 h.2.2, h.3.4, items_are_size arms arm (h.0 + 1) h.3.0 h.3.2)
      form_is_size (Closure static reference parameters captures type body) pattern k at to h =
          omega (
            arith,
            may_is_size static _ at h.0 h.5,
            may_is_size reference _ (h.0 + 1) h.1 h.7,
            h.8.4,
            items_are_size parameters parameter (h.1 + 1) h.8.0 h.8.2,
            captures_are_size captures h.2 h.3 h.9,
            return_is_size type h.3 h.4 h.10,
            body_is_size body h.4 to h.11,
          )
      form_is_size (Arrow static reference parameters type e) pattern k at to h =
          omega (
            arith,
            may_is_size static _ at h.0 h.4,
            may_is_size reference _ (h.0 + 1) h.1 h.6,
            h.7.4,
            items_are_size parameters parameter (h.1 + 1) h.7.0 h.7.2,
            return_is_size type h.2 h.3 h.8,
            reads_size e false loosest (h.3 + 1) to h.10,
          )
      form_is_size (Text parts) pattern k at to h = omega (arith, h.0.4, steps_are_size parts part (at + 1) h.0.0 h.0.2)
      form_is_size (Post e ss) pattern k at to h = omega (arith, reads_size e false 0 at h.0 h.3, steps_are_size ss suffix h.0 to h.4)
      form_is_size (Prefix o e) pattern k at to h = omega (arith, reads_size e false (prefix_stratum o) (at + 1) to h.2)
      form_is_size (Assignment target o e) pattern k at to h =
          omega (arith, reads_size target true 4 at h.0 h.4, h.5.1, reads_size e false 24 h.1 to h.6)
      form_is_size (Chain j e ss) pattern k at to h =
          omega (arith, reads_size e false (tighter j) at h.0 h.4, steps_are_size ss (operation j) h.0 to h.5)
      form_is_size (Binary d sign o e) pattern k at to h =
          omega (
            arith,
            reads_size d false (binary_stratum o - 1) at h.0 h.4,
            h.5.1,
            reads_size e false (right_side (fixity o) (binary_stratum o)) h.1 to h.6,
          )
      form_is_size (Conditional c d e) pattern k at to h =
          omega (
            arith,
            reads_size c false 21 at h.0 h.3,
            reads_size d false loosest (h.0 + 1) h.1 h.5,
            reads_size e false 21 (h.1 + 1) to h.7,
          )

      pub items_are_size : (es : Items) (sort : ItemSort) (at to : ℕ) → Lists ts Stops sort es at to → to ≡ at + items_size es
      items_are_size no_item sort at to h = omega (arith, h)
      items_are_size (items x xs comma) sort at to h =
          omega (arith, item_is_size x sort at h.0 h.2, steps_are_size xs (further sort) h.0 h.1 h.3, may_is_size comma _ h.1 to h.4)

      pub captures_are_size : (es : Items) (at to : ℕ) → MayCapture ts (has_items es) (Lists ts Stops captured es) at to → to ≡ at + captures_size es
      captures_are_size no_item at to h = omega (arith, h)
      captures_are_size (items x xs comma) at to h =
          let v = h.1.2 in
          omega (
            arith,
            h.1.4,
            item_is_size x captured (at + 1 + 1) v.0 v.2,
            steps_are_size xs (further captured) v.0 v.1 v.3,
            may_is_size comma _ v.1 h.1.0 v.4,
          )

      pub item_is_size : (x : Item) (sort : ItemSort) (at to : ℕ) → ItemReads ts Stops sort x at to → to ≡ at + item_size x
      item_is_size (Positional e) argument at to h = reads_size e false loosest at to h.1
      item_is_size (Positional e) expression at to h = reads_size e false loosest at to h
      item_is_size (Spread e) argument at to h = omega (arith, reads_size e false loosest (at + 1) to h.1)
      item_is_size (Spread e) element at to h = omega (arith, reads_size e false loosest (at + 1) to h.1)
      item_is_size (Named t e) argument at to h = omega (arith, reads_size e false loosest (at + 2) to h.3)
      item_is_size (Element reference e) element at to h = omega (arith, may_is_size reference _ at h.0 h.1, reads_size e true loosest h.0 to h.2)
      item_is_size (KeyedElement key reference e) element at to h =
          omega (
            arith,
            reads_size key false loosest at h.0 h.2,
            may_is_size reference _ (h.0 + 1) h.1 h.4,
            reads_size e true loosest h.1 to h.5,
          )
      item_is_size (Parameter visibility type reference variadic t value) parameter at to h =
          omega (
            arith,
            visibility_is_size visibility at h.0 h.4,
            may_type_is_size type h.0 h.1 h.5,
            may_is_size reference _ h.1 h.2 h.6,
            may_is_size variadic _ h.2 h.3 h.7,
            default_is_size value (h.3 + 1) to h.10,
          )
      item_is_size (Captured t) captured at to h = h.2
      item_is_size (Arm conditions e) arm at to h =
          omega (arith, items_are_size conditions expression at h.0 h.2, reads_size e false loosest (h.0 + 1) to h.4)
      item_is_size (DefaultArm comma e) arm at to h =
          omega (arith, may_is_size comma _ (at + 1) h.0 h.2, reads_size e false loosest (h.0 + 1) to h.4)
      item_is_size _ _ at to h = absurd h

      pub default_is_size : (value : Default) (at to : ℕ) → Defaults ts Stops value at to → to ≡ at + default_size value
      default_is_size no_default at to h = omega (arith, h)
      default_is_size (default e) at to h = omega (arith, reads_size e false loosest (at + 1) to h.1)

      pub arguments_are_size : (es : Arguments) (callable : Bool) (at to : ℕ) → MayBeCalled ts Stops callable es at to → to ≡ at + arguments_size es
      arguments_are_size no_arguments callable at to h = omega (arith, h.0)
      arguments_are_size (arguments es) callable at to h = omega (arith, h.1.4, items_are_size es argument (at + 1) h.1.0 h.1.2)

      pub class_is_size : (class : ClassReference) (at to : ℕ) → Classes ts Stops class at to → to ≡ at + class_size class
      class_is_size (NamedClass t) at to h = h.2
      class_is_size (VariableClass t ss) at to h = omega (arith, steps_are_size ss class_suffix (at + 1) to h.2)
      class_is_size (ScopedClass t u ss) at to h = omega (arith, steps_are_size ss class_suffix (at + 3) to h.5)
      class_is_size (ComputedClass e) at to h = omega (arith, h.4, reads_size e false loosest (at + 1) h.0 h.2)

      pub member_is_size : (name : MemberName) (at to : ℕ) → Members ts Stops name at to → to ≡ at + member_size name
      member_is_size (NamedMember t) at to h = h.2
      member_is_size (ComputedMember e) at to h = omega (arith, h.4, reads_size e false loosest (at + 1) h.0 h.2)

      pub steps_are_size : (ss : Steps) (sort : StepSort) (at to : ℕ) → Repeats ts Stops sort ss at to → to ≡ at + steps_size ss
      steps_are_size no_step sort at to h = omega (arith, h)
      steps_are_size (step x xs) sort at to h = omega (arith, step_is_size x sort at h.0 h.1, steps_are_size xs sort h.0 to h.2)

      pub step_is_size : (x : Step) (sort : StepSort) (at to : ℕ) → StepReads ts Stops sort x at to → to ≡ at + step_size x
      step_is_size Push sort at to h = h.3
      step_is_size (Index e) sort at to h = omega (arith, h.1.4, reads_size e false loosest (at + 1) h.1.0 h.1.2)
      step_is_size (Property nullsafe name es) sort at to h =
          omega (arith, member_is_size name (at + 1) h.0 h.3, arguments_are_size es (takes_arguments sort) h.0 to h.4)
      step_is_size (Scoped t es) sort at to h = omega (arith, arguments_are_size es (takes_arguments sort) (at + 2) to h.3)
      step_is_size (Call es) sort at to h = omega (arith, h.1.4, items_are_size es argument (at + 1) h.1.0 h.1.2)
      step_is_size Increment sort at to h = h.2
      step_is_size Decrement sort at to h = h.2
      step_is_size (Operation sign o e) sort at to h = omega (arith, h.2.1, reads_size e false (tighter (binary_stratum o)) h.0 to h.3)
      step_is_size (Part t) sort at to h = h.3
      step_is_size (Inserted e) sort at to h = omega (arith, h.1.4, reads_size e false loosest (at + 1) h.1.0 h.1.2)
      step_is_size (Further x) (further sort) at to h = omega (arith, item_is_size x sort (at + 1) to h.1)
      step_is_size (Further x) _ at to h = absurd h

pub tree_size : (ts : List Token) (t : Tree) (at to : ℕ) → Spells ts t at to → to ≡ at + size t
tree_size ts t at to h = reads_size ts (λ low k to. Unit {0}) t false loosest at to h
