-- How deep an expression is: 0 for one token, and 1 more for each pair of brackets and each operation that stands around another.
use Rattle.std.specs.Prelude.{ℕ, ◌+◌, max, if◌then◌else◌, Bool}
use Rattle.stan_model_grammar.specs.declared.token.TokenKind.{TokenKind}
use Rattle.stan_model_grammar.specs.declared.token.TokenKind.TheVariants as kinds
use Rattle.stan_model_grammar.specs.Trees.{Tree, node, Form, Single, Brackets, Array, IsSet, Empty, Exit, New, Match, Closure, Arrow, Text, Post, Prefix, Assignment, Chain, Binary, Conditional, Items, no_item, items, Item, Positional, Spread, Named, Element, KeyedElement, Parameter, Captured, Arm, DefaultArm, Default, no_default, default, Arguments, no_arguments, arguments, ClassReference, NamedClass, VariableClass, ScopedClass, ComputedClass, MemberName, NamedMember, ComputedMember, Steps, no_step, step, Step, Push, Index, Property, Scoped, Call, Increment, Decrement, Operation, Part, Inserted, Further, Body, Held, Read, Statements, no_statement, statement, Statement, Expression, production, operates}

-- an operator with its operands, which counts 1 more on the left of another one
abbrev pub is_operation : Tree → Bool
is_operation e = operates (production e)

-- `$a[0]` in a text has a pair of brackets
abbrev pub part_depth : TokenKind → ℕ
part_depth kinds.InsertedElement = 1
part_depth _ = 0

-- a left side, by whether it is an operation and by its own depth
abbrev pub left_depth : Bool → ℕ → ℕ
left_depth operation d = if operation then d + 1 else d

-- the captured variables stand in a pair of brackets
abbrev pub captures_depth : Items → ℕ
captures_depth no_item = 0
captures_depth (items x xs comma) = 1

abbrev mutual
  pub depth : Tree → ℕ
  depth (node t f) = form_depth f

  pub form_depth : Form → ℕ
  form_depth (Single leaf) = 0
  form_depth (Brackets e) = depth e + 1
  form_depth (Array style es) = items_depth es + 1
  form_depth (IsSet es) = items_depth es + 1
  form_depth (Empty e) = depth e + 1
  form_depth (Exit es) = arguments_depth es
  form_depth (New class es) = max (class_depth class) (arguments_depth es)
  form_depth (Match e arms) = max (depth e) (items_depth arms) + 1
  form_depth (Closure static reference parameters captures type body) = max (items_depth parameters + 1) (max (captures_depth captures) (body_depth body))
  form_depth (Arrow static reference parameters type e) = max (items_depth parameters + 1) (depth e) + 1
  form_depth (Text parts) = steps_depth parts
  form_depth (Post e ss) = max (depth e) (steps_depth ss)
  form_depth (Prefix o e) = depth e + 1
  form_depth (Assignment target o e) = max (depth target) (depth e) + 1
  form_depth (Chain j e ss) = max (left_depth (is_operation e) (depth e)) (steps_depth ss)
  form_depth (Binary d t o e) = max (left_depth (is_operation d) (depth d)) (depth e + 1)
  form_depth (Conditional c d e) = max (depth c) (max (depth d + 1) (depth e + 1))

  -- the deepest one
  pub items_depth : Items → ℕ
  items_depth no_item = 0
  items_depth (items x xs comma) = max (item_depth x) (steps_depth xs)

  pub item_depth : Item → ℕ
  item_depth (Positional e) = depth e
  item_depth (Spread e) = depth e
  item_depth (Named t e) = depth e
  item_depth (Element reference e) = depth e
  item_depth (KeyedElement key reference e) = max (depth key) (depth e)
  item_depth (Parameter visibility type reference variadic t value) = default_depth value
  item_depth (Captured t) = 0
  item_depth (Arm conditions e) = max (items_depth conditions) (depth e)
  item_depth (DefaultArm comma e) = depth e

  pub default_depth : Default → ℕ
  default_depth no_default = 0
  default_depth (default e) = depth e

  -- with their brackets
  pub arguments_depth : Arguments → ℕ
  arguments_depth no_arguments = 0
  arguments_depth (arguments es) = items_depth es + 1

  pub class_depth : ClassReference → ℕ
  class_depth (NamedClass t) = 0
  class_depth (VariableClass t ss) = steps_depth ss
  class_depth (ScopedClass t u ss) = steps_depth ss
  class_depth (ComputedClass e) = depth e + 1

  pub member_depth : MemberName → ℕ
  member_depth (NamedMember t) = 0
  member_depth (ComputedMember e) = depth e + 1

  -- the deepest one
  pub steps_depth : Steps → ℕ
  steps_depth no_step = 0
  steps_depth (step x xs) = max (step_depth x) (steps_depth xs)

  pub step_depth : Step → ℕ
  step_depth Push = 1
  step_depth (Index e) = depth e + 1
  step_depth (Property nullsafe name es) = max (member_depth name) (arguments_depth es)
  step_depth (Scoped t es) = arguments_depth es
  step_depth (Call es) = items_depth es + 1
  step_depth Increment = 0
  step_depth Decrement = 0
  step_depth (Operation t o e) = depth e + 1
  step_depth (Part t) = part_depth t.kind
  step_depth (Inserted e) = depth e + 1
  step_depth (Further x) = item_depth x

  -- with its braces
  pub body_depth : Body → ℕ
  body_depth (Held first last) = 1
  body_depth (Read ss) = statements_depth ss + 1

  pub statements_depth : Statements → ℕ
  statements_depth no_statement = 0
  statements_depth (statement s ss) = max (statement_depth s) (statements_depth ss)

  pub statement_depth : Statement → ℕ
  statement_depth (Expression e) = depth e
