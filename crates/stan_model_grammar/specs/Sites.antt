-- What stands anywhere in an expression, from left to right: the functions that are called by name, and the bodies of closures.
use Rattle.std.specs.Prelude.{ℕ, ◌+◌, min, if◌then◌else◌, Bool, List, [], ◌∷◌, ◌++◌}
use Rattle.stan_model_grammar.specs.declared.operators.Leaf.TheVariants as leaves
use Rattle.stan_model_grammar.specs.declared.token.Token.{Token}
use Rattle.stan_model_grammar.specs.Depth.{is_operation}
use Rattle.stan_model_grammar.specs.Trees.{Tree, node, Form, Single, Brackets, Array, IsSet, Empty, Exit, New, Match, Closure, Arrow, Text, Post, Prefix, Assignment, Chain, Binary, Conditional, Items, no_item, items, Item, Positional, Spread, Named, Element, KeyedElement, Parameter, Captured, Arm, DefaultArm, Default, no_default, default, Arguments, no_arguments, arguments, ClassReference, NamedClass, VariableClass, ScopedClass, ComputedClass, MemberName, NamedMember, ComputedMember, Steps, no_step, step, Step, Push, Index, Property, Scoped, Call, Increment, Decrement, Operation, Part, Inserted, Further, Body, Held, Read, Statements, no_statement, statement, Statement, Expression}

-- the held body of a closure: how many levels are open around its braces, the place behind its `{` and the place of its `}`
pub record HeldBody : Type 0 where
  pub levels : ℕ
  pub first : ℕ
  pub last : ℕ

pub data Site : Type 0 where
  -- a call, by the token of the function's name
  CallSite : Token → Site
  BodySite : HeldBody → Site

-- One level more is open. More than 200 are too many, so that they are counted up to 201.
abbrev pub deeper : ℕ → ℕ
deeper n = min (n + 1) 201

-- in a left side, by whether it is an operation
abbrev pub left_level : Bool → ℕ → ℕ
left_level operation n = if operation then deeper n else n

-- a name that brackets with arguments follow
abbrev pub called : Tree → Steps → List Site
called (node t (Single leaves.Name)) (step (Call es) ss) = CallSite t ∷ []
called e ss = []

abbrev mutual
  -- the sites in a tree, where this many levels are open around it
  pub sites : ℕ → Tree → List Site
  sites n (node t f) = form_sites n f

  pub form_sites : ℕ → Form → List Site
  form_sites n (Single leaf) = []
  form_sites n (Brackets e) = sites (deeper n) e
  form_sites n (Array style es) = items_sites (deeper n) es
  form_sites n (IsSet es) = items_sites (deeper n) es
  form_sites n (Empty e) = sites (deeper n) e
  form_sites n (Exit es) = arguments_sites n es
  form_sites n (New class es) = class_sites n class ++ arguments_sites n es
  form_sites n (Match e arms) = sites (deeper n) e ++ items_sites (deeper n) arms
  form_sites n (Closure static reference parameters captures type body) = items_sites (deeper n) parameters ++ body_sites n body
  form_sites n (Arrow static reference parameters type e) = items_sites (deeper (deeper n)) parameters ++ sites (deeper n) e
  form_sites n (Text parts) = steps_sites n parts
  form_sites n (Post e ss) = called e ss ++ sites n e ++ steps_sites n ss
  form_sites n (Prefix o e) = sites (deeper n) e
  form_sites n (Assignment target o e) = sites (deeper n) target ++ sites (deeper n) e
  form_sites n (Chain j e ss) = sites (left_level (is_operation e) n) e ++ steps_sites n ss
  form_sites n (Binary d t o e) = sites (left_level (is_operation d) n) d ++ sites (deeper n) e
  form_sites n (Conditional c d e) = sites n c ++ sites (deeper n) d ++ sites (deeper n) e

  pub items_sites : ℕ → Items → List Site
  items_sites n no_item = []
  items_sites n (items x xs comma) = item_sites n x ++ steps_sites n xs

  pub item_sites : ℕ → Item → List Site
  item_sites n (Positional e) = sites n e
  item_sites n (Spread e) = sites n e
  item_sites n (Named t e) = sites n e
  item_sites n (Element reference e) = sites n e
  item_sites n (KeyedElement key reference e) = sites n key ++ sites n e
  item_sites n (Parameter visibility type reference variadic t value) = default_sites n value
  item_sites n (Captured t) = []
  item_sites n (Arm conditions e) = items_sites n conditions ++ sites n e
  item_sites n (DefaultArm comma e) = sites n e

  pub default_sites : ℕ → Default → List Site
  default_sites n no_default = []
  default_sites n (default e) = sites n e

  pub arguments_sites : ℕ → Arguments → List Site
  arguments_sites n no_arguments = []
  arguments_sites n (arguments es) = items_sites (deeper n) es

  pub class_sites : ℕ → ClassReference → List Site
  class_sites n (NamedClass t) = []
  class_sites n (VariableClass t ss) = steps_sites n ss
  class_sites n (ScopedClass t u ss) = steps_sites n ss
  class_sites n (ComputedClass e) = sites (deeper n) e

  pub member_sites : ℕ → MemberName → List Site
  member_sites n (NamedMember t) = []
  member_sites n (ComputedMember e) = sites (deeper n) e

  pub steps_sites : ℕ → Steps → List Site
  steps_sites n no_step = []
  steps_sites n (step x xs) = step_sites n x ++ steps_sites n xs

  pub step_sites : ℕ → Step → List Site
  step_sites n Push = []
  step_sites n (Index e) = sites (deeper n) e
  step_sites n (Property nullsafe name es) = member_sites n name ++ arguments_sites n es
  step_sites n (Scoped t es) = arguments_sites n es
  step_sites n (Call es) = items_sites (deeper n) es
  step_sites n Increment = []
  step_sites n Decrement = []
  step_sites n (Operation t o e) = sites (deeper n) e
  step_sites n (Part t) = []
  step_sites n (Inserted e) = sites (deeper n) e
  step_sites n (Further x) = item_sites n x

  pub body_sites : ℕ → Body → List Site
  body_sites n (Held first last) = BodySite (record { levels = n; first = first; last = last }) ∷ []
  body_sites n (Read ss) = statements_sites (deeper n) ss

  pub statements_sites : ℕ → Statements → List Site
  statements_sites n no_statement = []
  statements_sites n (statement s ss) = statement_sites n s ++ statements_sites n ss

  pub statement_sites : ℕ → Statement → List Site
  statement_sites n (Expression e) = sites n e

-- the names that are called
abbrev pub calls_among : List Site → List Token
calls_among [] = []
calls_among (CallSite t ∷ xs) = t ∷ calls_among xs
calls_among (BodySite b ∷ xs) = calls_among xs

abbrev pub bodies_among : List Site → List HeldBody
bodies_among [] = []
bodies_among (CallSite t ∷ xs) = bodies_among xs
bodies_among (BodySite b ∷ xs) = b ∷ bodies_among xs
