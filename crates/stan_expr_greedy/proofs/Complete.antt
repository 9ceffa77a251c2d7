-- A greedy tree that is no deeper than the levels that are left is the one that the parser reads, so one at most stands at a place.
use Rattle.std.proofs.Common.{◌≡◌, ℕ, ◌-◌, ◌≤◌, Bool, false, List, max, Some, sym, ◌∙◌, arith}
use Rattle.std.proofs.lemmas.Option.{some_pair_parts}
use Rattle.stan_model_grammar.specs.declared.token.Token.{Token}
use Rattle.stan_model_grammar.specs.Strata.{loosest}
use Rattle.stan_model_grammar.specs.Trees.{Tree, node, Form, Single, Brackets, Array, IsSet, Empty, Exit, New, Match, Closure, Arrow, Text, Post, Prefix, Assignment, Chain, Binary, Conditional, Items, no_item, items, Item, Positional, Spread, Named, Element, KeyedElement, Parameter, Captured, Arm, DefaultArm, Default, no_default, default, Arguments, no_arguments, arguments, ClassReference, NamedClass, VariableClass, ScopedClass, ComputedClass, MemberName, NamedMember, ComputedMember, Steps, no_step, step, Step, Push, Index, Property, Scoped, Call, Increment, Decrement, Operation, Part, Inserted, Further}
use Rattle.stan_model_grammar.specs.Depth.{depth}
use Rattle.stan_expr_rules.specs.Parse.{strata, below, expression_at}
use Rattle.stan_expr_rules.proofs.Greedy.{Greedy, Picks}
use Rattle.stan_expr_greedy.proofs.CompleteClaims.{FormC, TreeC, ItemsC, ItemC, DefaultC, ArgumentsC, ClassC, MemberC, StepsC, StepC, tree_claims}
use Rattle.stan_expr_greedy.proofs.CompleteProductions.{items_claim, positional_claim, spread_claim, named_claim, element_claim, keyed_claim, parameter_claim, captured_claim, arm_claim, default_arm_claim, no_default_claim, default_claim, no_arguments_claim, arguments_claim, named_class_claim, variable_class_claim, scoped_class_claim, computed_class_claim, named_member_claim, computed_member_claim, no_step_claim, step_claim, push_claim, index_claim, property_claim, scoped_claim, call_claim, increment_claim, decrement_claim, operation_claim, part_claim, inserted_claim, further_claim}
use Rattle.stan_expr_greedy.proofs.CompleteTrees.{single_claim, brackets_claim, array_claim, is_set_claim, empty_claim, exit_claim, match_claim, closure_claim, arrow_claim, text_claim, new_claim, post_claim, prefix_claim, assignment_claim, chain_claim, binary_claim, conditional_claim}

module _ (ts : List Token) where
  mutual
    complete : (t : Tree) → TreeC ts t
    complete (node t f) = tree_claims ts f (complete_form f) t

    complete_form : (f : Form) → FormC ts f
    complete_form (Single leaf) = single_claim ts leaf
    complete_form (Brackets e) = brackets_claim ts e (complete e)
    complete_form (Array style es) = array_claim ts style es (complete_items es)
    complete_form (IsSet es) = is_set_claim ts es (complete_items es)
    complete_form (Empty e) = empty_claim ts e (complete e)
    complete_form (Exit es) = exit_claim ts es (complete_arguments es)
    complete_form (New class es) = new_claim ts class es (complete_class class) (complete_arguments es)
    complete_form (Match e arms) = match_claim ts e arms (complete e) (complete_items arms)
    complete_form (Closure static reference parameters captures type body) = closure_claim ts static reference parameters captures type body (complete_items parameters)
    complete_form (Arrow static reference parameters type e) = arrow_claim ts static reference parameters type e (complete_items parameters) (complete e)
    complete_form (Text parts) = text_claim ts parts (complete_steps parts)
    complete_form (Post e ss) = post_claim ts e ss (complete e) (complete_steps ss)
    complete_form (Prefix o e) = prefix_claim ts o e (complete e)
    complete_form (Assignment target o e) = assignment_claim ts target o e (complete target) (complete e)
    complete_form (Chain j e ss) = chain_claim ts j e ss (complete e) (complete_steps ss)
    complete_form (Binary d sign o e) = binary_claim ts d sign o e (complete d) (complete e)
    complete_form (Conditional c d e) = conditional_claim ts c d e (complete c) (complete d) (complete e)

    complete_items : (es : Items) → ItemsC ts es
    complete_items no_item = λ n sort closing at to some c e h k d. absurd some
    complete_items (items x xs comma) = items_claim ts x xs comma (complete_item x) (complete_steps xs)

    complete_item : (x : Item) → ItemC ts x
    complete_item (Positional e) = positional_claim ts e (complete e)
    complete_item (Spread e) = spread_claim ts e (complete e)
    complete_item (Named t e) = named_claim ts t e (complete e)
    complete_item (Element reference e) = element_claim ts reference e (complete e)
    complete_item (KeyedElement key reference e) = keyed_claim ts key reference e (complete key) (complete e)
    complete_item (Parameter visibility type reference variadic t value) = parameter_claim ts visibility type reference variadic t value (complete_default value)
    complete_item (Captured t) = captured_claim ts t
    complete_item (Arm conditions e) = arm_claim ts conditions e (complete_items conditions) (complete e)
    complete_item (DefaultArm comma e) = default_arm_claim ts comma e (complete e)

    complete_default : (value : Default) → DefaultC ts value
    complete_default no_default = no_default_claim ts
    complete_default (default e) = default_claim ts e (complete e)

    complete_arguments : (es : Arguments) → ArgumentsC ts es
    complete_arguments no_arguments = no_arguments_claim ts
    complete_arguments (arguments es) = arguments_claim ts es (complete_items es)

    complete_class : (class : ClassReference) → ClassC ts class
    complete_class (NamedClass t) = named_class_claim ts t
    complete_class (VariableClass t ss) = variable_class_claim ts t ss (complete_steps ss)
    complete_class (ScopedClass t u ss) = scoped_class_claim ts t u ss (complete_steps ss)
    complete_class (ComputedClass e) = computed_class_claim ts e (complete e)

    complete_member : (name : MemberName) → MemberC ts name
    complete_member (NamedMember t) = named_member_claim ts t
    complete_member (ComputedMember e) = computed_member_claim ts e (complete e)

    complete_steps : (ss : Steps) → StepsC ts ss
    complete_steps no_step = no_step_claim ts
    complete_steps (step x xs) = step_claim ts x xs (complete_step x) (complete_steps xs)

    complete_step : (x : Step) → StepC ts x
    complete_step Push = push_claim ts
    complete_step (Index e) = index_claim ts e (complete e)
    complete_step (Property nullsafe name es) = property_claim ts nullsafe name es (complete_member name) (complete_arguments es)
    complete_step (Scoped t es) = scoped_claim ts t es (complete_arguments es)
    complete_step (Call es) = call_claim ts es (complete_items es)
    complete_step Increment = increment_claim ts
    complete_step Decrement = decrement_claim ts
    complete_step (Operation sign o e) = operation_claim ts sign o e (complete e)
    complete_step (Part t) = part_claim ts t
    complete_step (Inserted e) = inserted_claim ts e (complete e)
    complete_step (Further x) = further_claim ts x (complete_item x)

-- A greedy tree of a stratum is read, if enough levels are left.
pub level_complete : (ts : List Token) (t : Tree) (n : ℕ) (p : Bool) (k at to : ℕ) → 5 ≤ k → k ≤ loosest → Greedy ts p k t at to → depth t ≤ n → strata ts (below ts n) p (k - 5) at ≡ Some (t, to)
level_complete ts t n p k at to lo hi h d = (complete ts t).2 n p k at to lo hi h d

pub expression_complete : (ts : List Token) (t : Tree) (n at to : ℕ) → Picks ts t at to → depth t ≤ n → expression_at ts n at ≡ Some (t, to)
unfolding expression_at
expression_complete ts t n at to h d = level_complete ts t n false loosest at to (omega arith) (omega arith) h d

-- one greedy tree at most stands at a place
pub one_is_picked : (ts : List Token) (f g : Tree) (p : Bool) (k at to end : ℕ) → 5 ≤ k → k ≤ loosest → Greedy ts p k f at to → Greedy ts p k g at end → (f ≡ g) × (to ≡ end)
one_is_picked ts f g p k at to end lo hi h i =
    let n : ℕ = max (depth f) (depth g) in
    let a = level_complete ts f n p k at to lo hi h (omega arith) in
    let b = level_complete ts g n p k at end lo hi i (omega arith) in
    some_pair_parts f g to end (sym a ∙ b)
