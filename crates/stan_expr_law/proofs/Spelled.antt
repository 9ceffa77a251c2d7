-- A greedy tree spells what it spells.
use Rattle.std.proofs.Common.{ℕ, ◌+◌, ◌-◌, Bool, true, false, List}
use Rattle.stan_model_grammar.specs.declared.operators.ArrayStyle.TheVariants as styles
use Rattle.stan_model_grammar.specs.declared.token.Token.{Token}
use Rattle.stan_model_grammar.specs.Strata.{loosest, prefix_stratum, binary_stratum, fixity, tighter, right_side}
use Rattle.stan_model_grammar.specs.Trees.{Tree, node, Form, Single, Brackets, Array, IsSet, Empty, Exit, New, Match, Closure, Arrow, Text, Post, Prefix, Assignment, Chain, Binary, Conditional, Items, no_item, items, Item, Positional, Spread, Named, Element, KeyedElement, Parameter, Captured, Arm, DefaultArm, Default, no_default, default, Arguments, no_arguments, arguments, ClassReference, NamedClass, VariableClass, ScopedClass, ComputedClass, MemberName, NamedMember, ComputedMember, Steps, no_step, step, Step, Push, Index, Property, Scoped, Call, Increment, Decrement, Operation, Part, Inserted, Further, Body, Held, Read}
use Rattle.stan_model_grammar.specs.Expressions.{ItemSort, argument, element, expression, parameter, captured, arm, StepSort, suffix, class_suffix, part, operation, further, takes_arguments, has_items, MayCapture, Reads, Forms, Lists, ItemReads, Defaults, MayBeCalled, Classes, Members, Repeats, StepReads, Bodies}
use Rattle.stan_expr_rules.proofs.Greedy.{Near, Greedy}

-- anything may follow
abbrev pub Free : ℕ → ℕ → ℕ → Type 0
Free low k to = Unit {0}

module _ (ts : List Token) (Stops : ℕ → ℕ → ℕ → Type 0) where
  -- The body of a closure is the same under both.
  body_spells : (body : Body) (at to : ℕ) → Bodies ts Stops body at to → Bodies ts Free body at to
  body_spells (Held first last) at to h = h
  body_spells (Read statements) at to h = absurd h

  mutual
    pub reads_spell : (t : Tree) (p : Bool) (k at to : ℕ) → Reads ts Stops p k t at to → Reads ts Free p k t at to
    reads_spell (node t f) p k at to h = (h.0, form_spells f p k at to h.1)

    form_spells : (f : Form) (p : Bool) (k at to : ℕ) → Forms ts Stops p k f at to → Forms ts Free p k f at to
    form_spells (Single leaf) p k at to h = (h.0, h.1, tt)
    form_spells (Brackets e) p k at to h = ((h.0.0, h.0.1, reads_spell e false loosest (at + 1) h.0.0 h.0.2, h.0.3, h.0.4), tt)
    form_spells (Array styles.Brackets es) p k at to h = (h.0, (h.1.0, h.1.1, items_spell es element (at + 1) h.1.0 h.1.2, h.1.3, h.1.4), tt)
    form_spells (Array styles.Array es) p k at to h = (h.0, h.1, (h.2.0, h.2.1, items_spell es element (at + 1 + 1) h.2.0 h.2.2, h.2.3, h.2.4), tt)
    form_spells (Array styles.List es) p k at to h = (h.0, h.1, (h.2.0, h.2.1, items_spell es element (at + 1 + 1) h.2.0 h.2.2, h.2.3, h.2.4), tt)
    form_spells (IsSet es) p k at to h = (h.0, h.1, (h.2.0, h.2.1, items_spell es expression (at + 1 + 1) h.2.0 h.2.2, h.2.3, h.2.4), tt)
    form_spells (Empty e) p k at to h = (h.0, (h.1.0, h.1.1, reads_spell e false loosest (at + 1 + 1) h.1.0 h.1.2, h.1.3, h.1.4), tt)
    form_spells (Exit es) p k at to h = (h.0, called_spells es true (at + 1) to h.1, tt)
    form_spells (New class es) p k at to h = (h.0, h.1, h.2, class_spells class (at + 1) h.0 h.3, called_spells es true h.0 to h.4, tt)
    form_spells (Match e arms) p k at to h = (
      h.0,
      h.1,
      (h.2.0, h.2.1, reads_spell e false loosest (at + 1 + 1) h.2.0 h.2.2, h.2.3, h.2.4),
      (h.3.0, h.3.1, items_spell arms arm (h.0 + 1) h.3.0 h.3.2, h.3.3, h.3.4),
      tt,
    )
    form_spells (Closure static reference parameters captures type body) p k at to h = (
      h.0,
      h.1,
      h.2,
      h.3,
      h.4,
      h.5,
      h.6,
      h.7,
      (h.8.0, h.8.1, items_spell parameters parameter (h.1 + 1) h.8.0 h.8.2, h.8.3, h.8.4),
      captures_spell captures h.2 h.3 h.9,
      h.10,
      body_spells body h.4 to h.11,
      tt,
    )
    form_spells (Arrow static reference parameters type e) p k at to h = (
      h.0,
      h.1,
      h.2,
      h.3,
      h.4,
      h.5,
      h.6,
      (h.7.0, h.7.1, items_spell parameters parameter (h.1 + 1) h.7.0 h.7.2, h.7.3, h.7.4),
      h.8,
      h.9,
      reads_spell e false loosest (h.3 + 1) to h.10,
      tt,
      h.12,
    )
    form_spells (Text parts) p k at to h = ((h.0.0, h.0.1, steps_spell parts part (at + 1) h.0.0 h.0.2, h.0.3, h.0.4), tt)
    form_spells (Post e ss) p k at to h = (h.0, h.1, h.2, reads_spell e false 0 at h.0 h.3, steps_spell ss suffix h.0 to h.4, tt)
    form_spells (Prefix o e) p k at to h = (h.0, h.1, reads_spell e false (prefix_stratum o) (at + 1) to h.2, tt)
    form_spells (Assignment target o e) p k at to h = (h.0, h.1, h.2, h.3, reads_spell target true 4 at h.0 h.4, h.5, reads_spell e false 24 h.1 to h.6, tt)
    form_spells (Chain j e ss) p k at to h = (h.0, h.1, h.2, h.3, reads_spell e false (tighter j) at h.0 h.4, steps_spell ss (operation j) h.0 to h.5, tt)
    form_spells (Binary d sign o e) p k at to h = (
      h.0,
      h.1,
      h.2,
      h.3,
      reads_spell d false (binary_stratum o - 1) at h.0 h.4,
      h.5,
      reads_spell e false (right_side (fixity o) (binary_stratum o)) h.1 to h.6,
      tt,
    )
    form_spells (Conditional c d e) p k at to h = (
      h.0,
      h.1,
      h.2,
      reads_spell c false 21 at h.0 h.3,
      h.4,
      reads_spell d false loosest (h.0 + 1) h.1 h.5,
      h.6,
      reads_spell e false 21 (h.1 + 1) to h.7,
      tt,
    )

    items_spell : (es : Items) (sort : ItemSort) (at to : ℕ) → Lists ts Stops sort es at to → Lists ts Free sort es at to
    items_spell no_item sort at to h = h
    items_spell (items x xs comma) sort at to h = (h.0, h.1, item_spells x sort at h.0 h.2, steps_spell xs (further sort) h.0 h.1 h.3, h.4)

    captures_spell : (es : Items) (at to : ℕ) → MayCapture ts (has_items es) (Lists ts Stops captured es) at to → MayCapture ts (has_items es) (Lists ts Free captured es) at to
    captures_spell no_item at to h = h
    captures_spell (items x xs comma) at to h =
        let v = h.1.2 in
        (h.0, (h.1.0, h.1.1, (v.0, v.1, item_spells x captured (at + 1 + 1) v.0 v.2, steps_spell xs (further captured) v.0 v.1 v.3, v.4), h.1.3, h.1.4))

    item_spells : (x : Item) (sort : ItemSort) (at to : ℕ) → ItemReads ts Stops sort x at to → ItemReads ts Free sort x at to
    item_spells (Positional e) argument at to h = (h.0, reads_spell e false loosest at to h.1)
    item_spells (Positional e) expression at to h = reads_spell e false loosest at to h
    item_spells (Spread e) argument at to h = (h.0, reads_spell e false loosest (at + 1) to h.1)
    item_spells (Spread e) element at to h = (h.0, reads_spell e false loosest (at + 1) to h.1)
    item_spells (Named t e) argument at to h = (h.0, h.1, h.2, reads_spell e false loosest (at + 2) to h.3)
    item_spells (Element reference e) element at to h = (h.0, h.1, reads_spell e true loosest h.0 to h.2)
    item_spells (KeyedElement key reference e) element at to h = (h.0, h.1, reads_spell key false loosest at h.0 h.2, h.3, h.4, reads_spell e true loosest h.1 to h.5)
    item_spells (Parameter visibility type reference variadic t value) parameter at to h = (h.0, h.1, h.2, h.3, h.4, h.5, h.6, h.7, h.8, h.9, default_spells value (h.3 + 1) to h.10)
    item_spells (Captured t) captured at to h = h
    item_spells (Arm conditions e) arm at to h = (h.0, h.1, items_spell conditions expression at h.0 h.2, h.3, reads_spell e false loosest (h.0 + 1) to h.4)
    item_spells (DefaultArm comma e) arm at to h = (h.0, h.1, h.2, h.3, reads_spell e false loosest (h.0 + 1) to h.4)
    item_spells _ _ at to h = absurd h

    default_spells : (value : Default) (at to : ℕ) → Defaults ts Stops value at to → Defaults ts Free value at to
    default_spells no_default at to h = h
    default_spells (default e) at to h = (h.0, reads_spell e false loosest (at + 1) to h.1)

    called_spells : (es : Arguments) (callable : Bool) (at to : ℕ) → MayBeCalled ts Stops callable es at to → MayBeCalled ts Free callable es at to
    called_spells no_arguments callable at to h = (h.0, λ e. tt)
    called_spells (arguments es) callable at to h = (h.0, (h.1.0, h.1.1, items_spell es argument (at + 1) h.1.0 h.1.2, h.1.3, h.1.4))

    class_spells : (class : ClassReference) (at to : ℕ) → Classes ts Stops class at to → Classes ts Free class at to
    class_spells (NamedClass t) at to h = (h.0, h.1, h.2, tt)
    class_spells (VariableClass t ss) at to h = (h.0, h.1, steps_spell ss class_suffix (at + 1) to h.2, tt)
    class_spells (ScopedClass t u ss) at to h = (h.0, h.1, h.2, h.3, h.4, steps_spell ss class_suffix (at + 3) to h.5, tt)
    class_spells (ComputedClass e) at to h = (h.0, h.1, reads_spell e false loosest (at + 1) h.0 h.2, h.3, h.4)

    member_spells : (name : MemberName) (at to : ℕ) → Members ts Stops name at to → Members ts Free name at to
    member_spells (NamedMember t) at to h = h
    member_spells (ComputedMember e) at to h = (h.0, h.1, reads_spell e false loosest (at + 1) h.0 h.2, h.3, h.4)

    steps_spell : (ss : Steps) (sort : StepSort) (at to : ℕ) → Repeats ts Stops sort ss at to → Repeats ts Free sort ss at to
    steps_spell no_step sort at to h = h
    steps_spell (step x xs) sort at to h = (h.0, step_spells x sort at h.0 h.1, steps_spell xs sort h.0 to h.2)

    step_spells : (x : Step) (sort : StepSort) (at to : ℕ) → StepReads ts Stops sort x at to → StepReads ts Free sort x at to
    step_spells Push sort at to h = h
    step_spells (Index e) sort at to h = (h.0, (h.1.0, h.1.1, reads_spell e false loosest (at + 1) h.1.0 h.1.2, h.1.3, h.1.4))
    step_spells (Property nullsafe name es) sort at to h = (h.0, h.1, h.2, member_spells name (at + 1) h.0 h.3, called_spells es (takes_arguments sort) h.0 to h.4)
    step_spells (Scoped t es) sort at to h = (h.0, h.1, h.2, called_spells es (takes_arguments sort) (at + 2) to h.3)
    step_spells (Call es) sort at to h = (h.0, (h.1.0, h.1.1, items_spell es argument (at + 1) h.1.0 h.1.2, h.1.3, h.1.4))
    step_spells Increment sort at to h = h
    step_spells Decrement sort at to h = h
    step_spells (Operation sign o e) sort at to h = (h.0, h.1, h.2, reads_spell e false (tighter (binary_stratum o)) h.0 to h.3)
    step_spells (Part t) sort at to h = h
    step_spells (Inserted e) sort at to h = (h.0, (h.1.0, h.1.1, reads_spell e false loosest (at + 1) h.1.0 h.1.2, h.1.3, h.1.4))
    step_spells (Further x) (further sort) at to h = (h.0, item_spells x sort (at + 1) to h.1)
    step_spells (Further x) _ at to h = absurd h

pub picked_spell : (ts : List Token) (p : Bool) (k : ℕ) (g : Tree) (at to : ℕ) → Greedy ts p k g at to → Reads ts Free p k g at to
picked_spell ts p k g at to h = reads_spell ts (Near ts) g p k at to h
