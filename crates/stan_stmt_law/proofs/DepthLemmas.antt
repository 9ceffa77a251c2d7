-- A tree is less deep than it is long: each level takes a token.
use Rattle.std.proofs.Common.{ℕ, ◌+◌, ◌-◌, ◌≤◌, Bool, true, false, List, arith}
use Rattle.stan_model_grammar.specs.declared.operators.ArrayStyle.TheVariants as styles
use Rattle.stan_model_grammar.specs.declared.token.Token.{Token}
use Rattle.stan_model_grammar.specs.declared.token.TokenKind.{TokenKind}
use Rattle.stan_model_grammar.specs.declared.token.TokenKind.TheVariants as kinds
use Rattle.stan_model_grammar.specs.Strata.{loosest, prefix_stratum, binary_stratum, fixity, tighter, right_side}
use Rattle.stan_model_grammar.specs.Trees.{Tree, node, Form, Single, Brackets, Array, IsSet, Empty, Exit, New, Match, Closure, Arrow, Text, Post, Prefix, Assignment, Chain, Binary, Conditional, Items, no_item, items, Item, Positional, Spread, Named, Element, KeyedElement, Parameter, Captured, Arm, DefaultArm, Default, no_default, default, Arguments, no_arguments, arguments, ClassReference, NamedClass, VariableClass, ScopedClass, ComputedClass, MemberName, NamedMember, ComputedMember, Steps, no_step, step, Step, Push, Index, Property, Scoped, Call, Increment, Decrement, Operation, Part, Inserted, Further, Body, Held, Read}
use Rattle.stan_model_grammar.specs.Expressions.{ItemSort, argument, element, expression, parameter, captured, arm, StepSort, IsSomeStep, suffix, class_suffix, part, operation, further, takes_arguments, has_items, MayCapture, Reads, Forms, Lists, ItemReads, Defaults, MayBeCalled, Classes, Members, Repeats, StepReads, Bodies}
use Rattle.stan_model_grammar.specs.Depth.{is_operation, left_depth, part_depth, captures_depth, depth, form_depth, items_depth, item_depth, default_depth, arguments_depth, class_depth, member_depth, steps_depth, step_depth, body_depth}
use Rattle.stan_model_grammar.specs.Takes.{body_size, size, form_size, items_size, captures_size, item_size, default_size, arguments_size, class_size, member_size, steps_size, step_size}
use Rattle.stan_expr_takes.proofs.Cut.{binary_some}

left_no_deeper : (operation : Bool) (d : ℕ) → left_depth operation d ≤ d + 1
left_no_deeper true d = omega arith
left_no_deeper false d = omega arith

part_shallow : (kind : TokenKind) → part_depth kind ≤ 1
part_shallow kinds.InsertedElement = omega arith
part_shallow kind = omega arith

module _ (ts : List Token) where
  -- ---- expressions

  module _ (Stops : ℕ → ℕ → ℕ → Type 0) where
    pub body_shallow : (body : Body) (at to : ℕ) → Bodies ts Stops body at to → body_depth body ≤ body_size body
    body_shallow (Held first last) at to h = omega arith
    body_shallow (Read statements) at to h = absurd h

    -- operators behind an operand take some tokens
    operations_take : (ss : Steps) (j at to : ℕ) → IsSomeStep ss → Repeats ts Stops (operation j) ss at to → 1 ≤ steps_size ss
    operations_take (step (Operation sign o e) xs) j at to s h = omega (arith, binary_some o)
    operations_take (step Push xs) j at to s h = omega arith
    operations_take (step (Index e) xs) j at to s h = omega arith
    operations_take (step (Property nullsafe name es) xs) j at to s h = omega arith
    operations_take (step (Scoped t es) xs) j at to s h = omega arith
    operations_take (step (Call es) xs) j at to s h = omega arith
    operations_take (step Increment xs) j at to s h = omega arith
    operations_take (step Decrement xs) j at to s h = omega arith
    operations_take (step (Part t) xs) j at to s h = omega arith
    operations_take (step (Inserted e) xs) j at to s h = omega arith
    operations_take (step (Further x) xs) j at to s h = omega arith
    operations_take no_step j at to s h = absurd s

    mutual
      pub reads_shallow : (t : Tree) (pattern : Bool) (k at to : ℕ) → Reads ts Stops pattern k t at to → depth t + 1 ≤ size t
      reads_shallow (node t f) pattern k at to h = omega (arith, form_shallow f pattern k at to h.1)

      pub form_shallow : (f : Form) (pattern : Bool) (k at to : ℕ) → Forms ts Stops pattern k f at to → form_depth f + 1 ≤ form_size f
      form_shallow (Single leaf) pattern k at to h = omega arith
      form_shallow (Brackets e) pattern k at to h = omega (arith, reads_shallow e false loosest (at + 1) h.0.0 h.0.2)
      form_shallow (Array styles.Brackets es) pattern k at to h = omega (arith, items_shallow es element (at + 1) h.1.0 h.1.2)
      form_shallow (Array styles.Array es) pattern k at to h = omega (arith, items_shallow es element (at + 1 + 1) h.2.0 h.2.2)
      form_shallow (Array styles.List es) pattern k at to h = omega (arith, items_shallow es element (at + 1 + 1) h.2.0 h.2.2)
      form_shallow (IsSet es) pattern k at to h = omega (arith, items_shallow es expression (at + 1 + 1) h.2.0 h.2.2)
      form_shallow (Empty e) pattern k at to h = omega (arith, reads_shallow e false loosest (at + 1 + 1) h.1.0 h.1.2)
      form_shallow (Exit es) pattern k at to h = omega (arith, arguments_shallow es true (at + 1) to h.1)
      form_shallow (New class es) pattern k at to h = omega (arith, class_shallow class (at + 1) h.0 h.3, arguments_shallow es true h.0 to h.4)
      form_shallow (Match e arms) pattern k at to h = omega (arith, reads_shallow e false loosest (at + 1 + 1) h.2.0 h.2.2, items_shallow arms arm (h.0 + 1) h.3.0 h.3.2)
      form_shallow (Closure static reference parameters captures type body) pattern k at to h = omega (arith, items_shallow parameters parameter (h.1 + 1) h.8.0 h.8.2, captures_shallow captures h.2 h.3 h.9, body_shallow body h.4 to h.11)
      form_shallow (Arrow static reference parameters type e) pattern k at to h = omega (arith, items_shallow parameters parameter (h.1 + 1) h.7.0 h.7.2, reads_shallow e false loosest (h.3 + 1) to h.10)
      form_shallow (Text parts) pattern k at to h = omega (arith, steps_shallow parts part (at + 1) h.0.0 h.0.2)
      form_shallow (Post e ss) pattern k at to h = omega (arith, reads_shallow e false 0 at h.0 h.3, steps_shallow ss suffix h.0 to h.4)
      form_shallow (Prefix o e) pattern k at to h = omega (arith, reads_shallow e false (prefix_stratum o) (at + 1) to h.2)
      form_shallow (Assignment target o e) pattern k at to h = omega (arith, reads_shallow target true 4 at h.0 h.4, reads_shallow e false 24 h.1 to h.6)
      form_shallow (Chain j e ss) pattern k at to h = omega (arith, reads_shallow e false (tighter j) at h.0 h.4, steps_shallow ss (operation j) h.0 to h.5, left_no_deeper (is_operation e) (depth e), operations_take ss j h.0 to h.3 h.5)
      form_shallow (Binary d sign o e) pattern k at to h = omega (arith, reads_shallow d false (binary_stratum o - 1) at h.0 h.4, reads_shallow e false (right_side (fixity o) (binary_stratum o)) h.1 to h.6, left_no_deeper (is_operation d) (depth d))
      form_shallow (Conditional c d e) pattern k at to h = omega (arith, reads_shallow c false 21 at h.0 h.3, reads_shallow d false loosest (h.0 + 1) h.1 h.5, reads_shallow e false 21 (h.1 + 1) to h.7)

      pub items_shallow : (es : Items) (sort : ItemSort) (at to : ℕ) → Lists ts Stops sort es at to → items_depth es ≤ items_size es
      items_shallow no_item sort at to h = omega arith
      items_shallow (items x xs comma) sort at to h = omega (arith, item_shallow x sort at h.0 h.2, steps_shallow xs (further sort) h.0 h.1 h.3)

      pub captures_shallow : (es : Items) (at to : ℕ) → MayCapture ts (has_items es) (Lists ts Stops captured es) at to → captures_depth es ≤ captures_size es
      captures_shallow no_item at to h = omega arith
      captures_shallow (items x xs comma) at to h = omega arith

      pub item_shallow : (x : Item) (sort : ItemSort) (at to : ℕ) → ItemReads ts Stops sort x at to → item_depth x ≤ item_size x
      item_shallow (Positional e) argument at to h = omega (arith, reads_shallow e false loosest at to h.1)
      item_shallow (Positional e) expression at to h = omega (arith, reads_shallow e false loosest at to h)
      item_shallow (Spread e) argument at to h = omega (arith, reads_shallow e false loosest (at + 1) to h.1)
      item_shallow (Spread e) element at to h = omega (arith, reads_shallow e false loosest (at + 1) to h.1)
      item_shallow (Named t e) argument at to h = omega (arith, reads_shallow e false loosest (at + 2) to h.3)
      item_shallow (Element reference e) element at to h = omega (arith, reads_shallow e true loosest h.0 to h.2)
      item_shallow (KeyedElement key reference e) element at to h = omega (arith, reads_shallow key false loosest at h.0 h.2, reads_shallow e true loosest h.1 to h.5)
      item_shallow (Parameter visibility type reference variadic t value) parameter at to h = omega (arith, default_shallow value (h.3 + 1) to h.10)
      item_shallow (Captured t) captured at to h = omega arith
      item_shallow (Arm conditions e) arm at to h = omega (arith, items_shallow conditions expression at h.0 h.2, reads_shallow e false loosest (h.0 + 1) to h.4)
      item_shallow (DefaultArm comma e) arm at to h = omega (arith, reads_shallow e false loosest (h.0 + 1) to h.4)
      item_shallow _ _ at to h = absurd h

      pub default_shallow : (value : Default) (at to : ℕ) → Defaults ts Stops value at to → default_depth value ≤ default_size value
      default_shallow no_default at to h = omega arith
      default_shallow (default e) at to h = omega (arith, reads_shallow e false loosest (at + 1) to h.1)

      pub arguments_shallow : (es : Arguments) (callable : Bool) (at to : ℕ) → MayBeCalled ts Stops callable es at to → arguments_depth es ≤ arguments_size es
      arguments_shallow no_arguments callable at to h = omega arith
      arguments_shallow (arguments es) callable at to h = omega (arith, items_shallow es argument (at + 1) h.1.0 h.1.2)

      pub class_shallow : (class : ClassReference) (at to : ℕ) → Classes ts Stops class at to → class_depth class ≤ class_size class
      class_shallow (NamedClass t) at to h = omega arith
      class_shallow (VariableClass t ss) at to h = omega (arith, steps_shallow ss class_suffix (at + 1) to h.2)
      class_shallow (ScopedClass t u ss) at to h = omega (arith, steps_shallow ss class_suffix (at + 3) to h.5)
      class_shallow (ComputedClass e) at to h = omega (arith, reads_shallow e false loosest (at + 1) h.0 h.2)

      pub member_shallow : (name : MemberName) (at to : ℕ) → Members ts Stops name at to → member_depth name ≤ member_size name
      member_shallow (NamedMember t) at to h = omega arith
      member_shallow (ComputedMember e) at to h = omega (arith, reads_shallow e false loosest (at + 1) h.0 h.2)

      pub steps_shallow : (ss : Steps) (sort : StepSort) (at to : ℕ) → Repeats ts Stops sort ss at to → steps_depth ss ≤ steps_size ss
      steps_shallow no_step sort at to h = omega arith
      steps_shallow (step x xs) sort at to h = omega (arith, step_shallow x sort at h.0 h.1, steps_shallow xs sort h.0 to h.2)

      pub step_shallow : (x : Step) (sort : StepSort) (at to : ℕ) → StepReads ts Stops sort x at to → step_depth x ≤ step_size x
      step_shallow Push sort at to h = omega arith
      step_shallow (Index e) sort at to h = omega (arith, reads_shallow e false loosest (at + 1) h.1.0 h.1.2)
      step_shallow (Property nullsafe name es) sort at to h = omega (arith, member_shallow name (at + 1) h.0 h.3, arguments_shallow es (takes_arguments sort) h.0 to h.4)
      step_shallow (Scoped t es) sort at to h = omega (arith, arguments_shallow es (takes_arguments sort) (at + 2) to h.3)
      step_shallow (Call es) sort at to h = omega (arith, items_shallow es argument (at + 1) h.1.0 h.1.2)
      step_shallow Increment sort at to h = omega arith
      step_shallow Decrement sort at to h = omega arith
      step_shallow (Operation sign o e) sort at to h = omega (arith, reads_shallow e false (tighter (binary_stratum o)) h.0 to h.3)
      step_shallow (Part t) sort at to h = omega (arith, part_shallow t.kind)
      step_shallow (Inserted e) sort at to h = omega (arith, reads_shallow e false loosest (at + 1) h.1.0 h.1.2)
      step_shallow (Further x) (further sort) at to h = omega (arith, item_shallow x sort (at + 1) to h.1)
      step_shallow (Further x) _ at to h = absurd h
