-- The grammar of PHP's expressions, as a relation between a tree and the tokens that it spells: one case a production.
-- Places count the tokens of the list, which has no comments and attributes.
use Rattle.std.specs.Prelude.{◌&&◌, if◌then◌else◌, ◌≡◌, ◌≢◌, ℕ, ◌+◌, ◌-◌, ◌<◌, ◌≤◌, Bool, true, false, IsTrue, List, [], ◌∷◌, Option, Some, None, take, drop, slice_get}
use Rattle.std.specs.List.{fold}
use Rattle.stan_model_grammar.specs.declared.operators.Leaf.TheVariants as leaves
use Rattle.stan_model_grammar.specs.declared.operators.ArrayStyle.TheVariants as styles
use Rattle.stan_model_grammar.specs.declared.operators.Fixity.TheVariants as fixities
use Rattle.stan_model_grammar.specs.declared.operators.BinaryOperator.{BinaryOperator}
use Rattle.stan_model_grammar.specs.declared.operators.AssignmentOperator.{AssignmentOperator}
use Rattle.stan_model_grammar.specs.declared.operators.Visibility.{Visibility}
use Rattle.stan_model_grammar.specs.declared.token.Token.{Token}
use Rattle.stan_model_grammar.specs.declared.token.TokenKind.{TokenKind}
use Rattle.stan_model_grammar.specs.declared.token.TokenKind.TheVariants as kinds
use Rattle.stan_model_grammar.specs.Strata.{kind_at, leaf_of, leaf_low, prefix_of, prefix_stratum, binary_at, binary_size, binary_stratum, fixity, tighter, right_side, assignment_at, assignment_size, takes_pattern, loosest, names_class, names_type, names_member, names_scoped, names_argument, is_part, is_exit, is_end, visibility_of}
use Rattle.stan_model_grammar.specs.Trees.{TypeTree, Nullable, Union, Tree, node, Form, Single, Brackets, Array, IsSet, Empty, Exit, New, Match, Closure, Arrow, Text, Post, Prefix, Assignment, Chain, Binary, Conditional, Items, no_item, items, Item, Positional, Spread, Named, Element, KeyedElement, Parameter, Captured, Arm, DefaultArm, Default, no_default, default, Arguments, no_arguments, arguments, ClassReference, NamedClass, VariableClass, ScopedClass, ComputedClass, MemberName, NamedMember, ComputedMember, Steps, no_step, step, Step, Push, Index, Property, Scoped, Call, Increment, Decrement, Operation, Part, Inserted, Further, Body, Held, Read, holds_pattern}

-- ---- what may stand where

-- what is listed with `,` between
pub data ItemSort : Type 0 where
  argument : ItemSort
  element : ItemSort
  -- of `isset`, and the conditions of an arm
  expression : ItemSort
  parameter : ItemSort
  captured : ItemSort
  arm : ItemSort

-- what is repeated
pub data StepSort : Type 0 where
  -- appended to an expression
  suffix : StepSort
  -- appended to the variable that holds the class of a `new`
  class_suffix : StepSort
  part : StepSort
  -- operators of a stratum
  operation : ℕ → StepSort
  further : ItemSort → StepSort

abbrev pub IsSuffix : StepSort → Type 0
IsSuffix suffix = Unit {0}
IsSuffix class_suffix = Unit {0}
IsSuffix _ = ⊥

abbrev pub IsSomeItem : Items → Type 0
IsSomeItem no_item = ⊥
IsSomeItem (items x xs comma) = Unit {0}

abbrev pub IsSomeStep : Steps → Type 0
IsSomeStep no_step = ⊥
IsSomeStep (step x xs) = Unit {0}

abbrev pub is_variable : TokenKind → Bool
is_variable kinds.Variable = true
is_variable _ = false

abbrev pub is_without : Arguments → Bool
is_without no_arguments = true
is_without (arguments es) = false

-- a part that an assignment may end: an element, a property or a static property
abbrev pub is_place : Step → Bool
is_place Push = true
is_place (Index e) = true
is_place (Property nullsafe name es) = is_without es
is_place (Scoped t es) = is_variable t.kind && is_without es
is_place _ = false

abbrev pub ends_in_place : Step → Steps → Bool
ends_in_place x no_step = is_place x
ends_in_place x (step y ys) = ends_in_place y ys

abbrev pub is_assignable : AssignmentOperator → Tree → Bool
is_assignable o (node t (Single leaves.Variable)) = true
is_assignable o (node t (Array style es)) = takes_pattern o
is_assignable o (node t (Post e (step x xs))) = ends_in_place x xs
is_assignable o _ = false

-- ---- the body of a closure

abbrev pub opens_brace : TokenKind → Bool
opens_brace kinds.LeftBrace = true
opens_brace kinds.InsertionStart = true
opens_brace _ = false

abbrev pub closes_brace : TokenKind → Bool
closes_brace kinds.RightBrace = true
closes_brace kinds.InsertionEnd = true
closes_brace _ = false

-- how many braces are open behind a token
abbrev pub braces_behind : ℕ → Token → ℕ
braces_behind n t = if opens_brace t.kind then n + 1 else (if closes_brace t.kind then n - 1 else n)

abbrev pub braces_open : List Token → ℕ → ℕ → ℕ
braces_open ts from to = fold braces_behind 1 (take (to - from) (drop from ts))

-- The brace that stands right before `from` is closed at `to`, and not before. The brace of an insertion counts as one.
pub record IsMatched (ts : List Token) (from to : ℕ) : Type 0 where
  pub rises : from ≤ to
  pub closed : braces_open ts from (to + 1) ≡ 0
  pub inside : (at : ℕ) → from ≤ at → at ≤ to → 0 < braces_open ts from at

-- ---- parts without expressions

abbrev pub arrow : Bool → TokenKind
arrow true = kinds.NullsafeArrow
arrow false = kinds.Arrow

abbrev pub takes_arguments : StepSort → Bool
takes_arguments class_suffix = false
takes_arguments _ = true

abbrev pub IsAppended : StepSort → Type 0
IsAppended suffix = Unit {0}
IsAppended _ = ⊥

abbrev pub IsPart : StepSort → Type 0
IsPart part = Unit {0}
IsPart _ = ⊥

abbrev pub IsOperation : StepSort → BinaryOperator → Type 0
IsOperation (operation j) o = (binary_stratum o ≡ j) × (fixity o ≡ fixities.Left)
IsOperation _ o = ⊥

abbrev pub is_scoped : StepSort → TokenKind → Bool
is_scoped suffix kind = names_scoped kind
is_scoped class_suffix kinds.Variable = true
is_scoped _ kind = false

abbrev pub has_items : Items → Bool
has_items no_item = false
has_items (items x xs comma) = true

module _ (ts : List Token) where
  abbrev pub Is : ℕ → TokenKind → Type 0
  Is at kind = kind_at ts at ≡ kind

  -- this token stands there
  abbrev pub Stands : ℕ → Token → Type 0
  Stands at t = slice_get ts at ≡ Some t

  -- a token that may stand
  abbrev pub May : Bool → TokenKind → ℕ → ℕ → Type 0
  May true kind from to = Is from kind × (to ≡ from + 1)
  May false kind from to = from ≡ to

  -- what stands between two tokens
  abbrev pub Between : TokenKind → (ℕ → ℕ → Type 0) → TokenKind → ℕ → ℕ → Type 0
  Between opening Inside closing from to = (b : ℕ) × Is from opening × Inside (from + 1) b × Is b closing × (to ≡ b + 1)

  -- an operator between two operands, which begins at this token
  abbrev pub Operates : Token → BinaryOperator → ℕ → ℕ → Type 0
  Operates t o from to = (binary_at (kind_at ts from) (kind_at ts (from + 1)) ≡ Some o) × (to ≡ from + binary_size o) × Stands from t

  abbrev pub Assigns : AssignmentOperator → ℕ → ℕ → Type 0
  Assigns o from to = (assignment_at (kind_at ts from) (kind_at ts (from + 1)) ≡ Some o) × (to ≡ from + assignment_size o)

  abbrev pub MayBeVisible : Option Visibility → ℕ → ℕ → Type 0
  MayBeVisible None from to = from ≡ to
  MayBeVisible (Some v) from to = (visibility_of (kind_at ts from) ≡ Some v) × (to ≡ from + 1)

  -- ---- types

  abbrev pub TypeName : Token → ℕ → ℕ → Type 0
  TypeName t from to = Stands from t × IsTrue (names_type t.kind) × (to ≡ from + 1)

  abbrev pub Alternatives : List Token → ℕ → ℕ → Type 0
  Alternatives [] from to = from ≡ to
  Alternatives (t ∷ more) from to = (b : ℕ) × Is from kinds.Bar × TypeName t (from + 1) b × Alternatives more b to

  abbrev pub Types : TypeTree → ℕ → ℕ → Type 0
  Types (Nullable first t) from to = Stands from first × Is from kinds.Question × TypeName t (from + 1) to
  Types (Union t more) from to = (b : ℕ) × TypeName t from b × Alternatives more b to

  abbrev pub MayBeTyped : Option TypeTree → ℕ → ℕ → Type 0
  MayBeTyped None from to = from ≡ to
  MayBeTyped (Some type) from to = Types type from to

  abbrev pub MayReturn : Option TypeTree → ℕ → ℕ → Type 0
  MayReturn None from to = from ≡ to
  MayReturn (Some type) from to = Is from kinds.Colon × Types type (from + 1) to

  -- variables that a closure captures
  abbrev pub MayCapture : Bool → (ℕ → ℕ → Type 0) → ℕ → ℕ → Type 0
  MayCapture true Inside from to = Is from kinds.Use × Between kinds.LeftParenthesis Inside kinds.RightParenthesis (from + 1) to
  MayCapture false Inside from to = Inside from to

  -- ---- expressions

  -- Each relation says that a tree spells the tokens from one place to another. `Stops low k to` is asked where a tree ends at the
  -- place `to` that stands for an expression of stratum k and that a token of a stratum from `low` on could go on with.
  module _ (Stops : ℕ → ℕ → ℕ → Type 0) where
    abbrev mutual
      -- an expression of stratum k or a tighter one, which may be a pattern or not
      pub Reads : Bool → ℕ → Tree → ℕ → ℕ → Type 0
      Reads pattern k (node t f) from to = Stands from t × Forms pattern k f from to

      pub Forms : Bool → ℕ → Form → ℕ → ℕ → Type 0
      Forms pattern k (Single leaf) from to = (leaf_of (kind_at ts from) ≡ Some leaf) × (to ≡ from + 1) × Stops (leaf_low leaf) k to
      Forms pattern k (Brackets e) from to = Between kinds.LeftParenthesis (Reads false loosest e) kinds.RightParenthesis from to × Stops 1 k to
      Forms pattern k (Array styles.Brackets es) from to = (holds_pattern es ≡ true → pattern ≡ true)
          × Between kinds.LeftBracket (Lists element es) kinds.RightBracket from to × Stops 1 k to
      Forms pattern k (Array styles.Array es) from to = (holds_pattern es ≡ true → pattern ≡ true)
          × Is from kinds.Array × Between kinds.LeftParenthesis (Lists element es) kinds.RightParenthesis (from + 1) to × Stops 1 k to
      Forms pattern k (Array styles.List es) from to = (pattern ≡ true)
          × Is from kinds.List × Between kinds.LeftParenthesis (Lists element es) kinds.RightParenthesis (from + 1) to × Stops 1 k to
      Forms pattern k (IsSet es) from to = IsSomeItem es × Is from kinds.IsSet
          × Between kinds.LeftParenthesis (Lists expression es) kinds.RightParenthesis (from + 1) to × Stops 1 k to
      Forms pattern k (Empty e) from to = Is from kinds.Empty
          × Between kinds.LeftParenthesis (Reads false loosest e) kinds.RightParenthesis (from + 1) to × Stops 1 k to
      Forms pattern k (Exit es) from to = IsTrue (is_exit (kind_at ts from)) × MayBeCalled true es (from + 1) to × Stops 1 k to
      Forms pattern k (New class es) from to = (b : ℕ) × (4 ≤ k) × Is from kinds.New × Classes class (from + 1) b × MayBeCalled true es b to × Stops 5 k to
      Forms pattern k (Match e arms) from to = (b : ℕ) × Is from kinds.Match
          × Between kinds.LeftParenthesis (Reads false loosest e) kinds.RightParenthesis (from + 1) b
          × Between kinds.LeftBrace (Lists arm arms) kinds.RightBrace b to × Stops 1 k to
      Forms pattern k (Closure static reference parameters captures type body) from to = (a b c d e : ℕ) × May static kinds.Static from a
          × Is a kinds.Function × May reference kinds.Ampersand (a + 1) b
          × Between kinds.LeftParenthesis (Lists parameter parameters) kinds.RightParenthesis b c
          × MayCapture (has_items captures) (Lists captured captures) c d × MayReturn type d e × Bodies body e to × Stops 1 k to
      -- no operand of a `post` and no target
      Forms pattern k (Arrow static reference parameters type e) from to = (a b c d : ℕ) × May static kinds.Static from a
          × Is a kinds.Fn × May reference kinds.Ampersand (a + 1) b
          × Between kinds.LeftParenthesis (Lists parameter parameters) kinds.RightParenthesis b c
          × MayReturn type c d × Is d kinds.DoubleArrow × Reads false loosest e (d + 1) to × Stops 5 k to × (4 ≤ k)
      Forms pattern k (Text parts) from to = Between kinds.TextStart (Repeats part parts) kinds.TextEnd from to × Stops 1 k to
      Forms pattern k (Post e ss) from to = (b : ℕ) × (4 ≤ k) × IsSomeStep ss × Reads false 0 e from b × Repeats suffix ss b to × Stops 1 k to
      Forms pattern k (Prefix o e) from to = (5 ≤ k) × (prefix_of (kind_at ts from) ≡ Some o) × Reads false (prefix_stratum o) e (from + 1) to
          × Stops 6 k to
      Forms pattern k (Assignment target o e) from to = (b c : ℕ) × (5 ≤ k) × IsTrue (is_assignable o target) × Reads true 4 target from b
          × Assigns o b c × Reads false 24 e c to × Stops 6 k to
      Forms pattern k (Chain j e ss) from to = (b : ℕ) × (6 ≤ j) × (j ≤ k) × IsSomeStep ss × Reads false (tighter j) e from b
          × Repeats (operation j) ss b to × Stops j k to
      Forms pattern k (Binary d t o e) from to = (b c : ℕ) × (binary_stratum o ≤ k) × (fixity o ≢ fixities.Left)
          × Reads false (binary_stratum o - 1) d from b × Operates t o b c × Reads false (right_side (fixity o) (binary_stratum o)) e c to
          × Stops (binary_stratum o + 1) k to
      Forms pattern k (Conditional c d e) from to = (a b : ℕ) × (22 ≤ k) × Reads false 21 c from a × Is a kinds.Question
          × Reads false loosest d (a + 1) b × Is b kinds.Colon × Reads false 21 e (b + 1) to × Stops 24 k to

      -- items with `,` between, and perhaps one behind the last
      pub Lists : ItemSort → Items → ℕ → ℕ → Type 0
      Lists sort no_item from to = from ≡ to
      Lists sort (items x xs comma) from to = (a b : ℕ) × ItemReads sort x from a × Repeats (further sort) xs a b × May comma kinds.Comma b to

      pub ItemReads : ItemSort → Item → ℕ → ℕ → Type 0
      -- A name with `:` behind it begins a named argument.
      ItemReads argument (Positional e) from to = (kind_at ts (from + 1) ≢ kinds.Colon) × Reads false loosest e from to
      ItemReads argument (Spread e) from to = Is from kinds.Ellipsis × Reads false loosest e (from + 1) to
      ItemReads argument (Named t e) from to = Stands from t × IsTrue (names_argument t.kind) × Is (from + 1) kinds.Colon × Reads false loosest e (from + 2) to
      ItemReads element (Spread e) from to = Is from kinds.Ellipsis × Reads false loosest e (from + 1) to
      ItemReads element (Element reference e) from to = (b : ℕ) × May reference kinds.Ampersand from b × Reads true loosest e b to
      ItemReads element (KeyedElement key reference e) from to = (a b : ℕ) × Reads false loosest key from a × Is a kinds.DoubleArrow
          × May reference kinds.Ampersand (a + 1) b × Reads true loosest e b to
      ItemReads expression (Positional e) from to = Reads false loosest e from to
      ItemReads parameter (Parameter visibility type reference variadic t value) from to = (a b c d : ℕ) × MayBeVisible visibility from a
          × MayBeTyped type a b × May reference kinds.Ampersand b c × May variadic kinds.Ellipsis c d
          × Stands d t × Is d kinds.Variable × Defaults value (d + 1) to
      ItemReads captured (Captured t) from to = Stands from t × Is from kinds.Variable × (to ≡ from + 1)
      ItemReads arm (Arm conditions e) from to = (b : ℕ) × IsSomeItem conditions × Lists expression conditions from b × Is b kinds.DoubleArrow
          × Reads false loosest e (b + 1) to
      ItemReads arm (DefaultArm comma e) from to = (b : ℕ) × Is from kinds.Default × May comma kinds.Comma (from + 1) b × Is b kinds.DoubleArrow
          × Reads false loosest e (b + 1) to
      ItemReads _ _ from to = ⊥

      pub Defaults : Default → ℕ → ℕ → Type 0
      Defaults no_default from to = from ≡ to
      Defaults (default e) from to = Is from kinds.Assign × Reads false loosest e (from + 1) to

      -- arguments that may stand, or may not
      pub MayBeCalled : Bool → Arguments → ℕ → ℕ → Type 0
      MayBeCalled callable no_arguments from to = (from ≡ to) × (callable ≡ true → Stops 1 1 to)
      MayBeCalled callable (arguments es) from to = (callable ≡ true) × Between kinds.LeftParenthesis (Lists argument es) kinds.RightParenthesis from to

      pub Classes : ClassReference → ℕ → ℕ → Type 0
      Classes (NamedClass t) from to = Stands from t × IsTrue (names_class t.kind) × (to ≡ from + 1) × Stops 2 2 to
      Classes (VariableClass t ss) from to = Stands from t × Is from kinds.Variable × Repeats class_suffix ss (from + 1) to × Stops 2 3 to
      Classes (ScopedClass t u ss) from to = Stands from t × IsTrue (names_class t.kind) × Is (from + 1) kinds.DoubleColon
          × Stands (from + 2) u × Is (from + 2) kinds.Variable × Repeats class_suffix ss (from + 3) to × Stops 2 3 to
      Classes (ComputedClass e) from to = Between kinds.LeftParenthesis (Reads false loosest e) kinds.RightParenthesis from to

      pub Members : MemberName → ℕ → ℕ → Type 0
      Members (NamedMember t) from to = Stands from t × IsTrue (names_member t.kind) × (to ≡ from + 1)
      Members (ComputedMember e) from to = Between kinds.LeftBrace (Reads false loosest e) kinds.RightBrace from to

      pub Repeats : StepSort → Steps → ℕ → ℕ → Type 0
      Repeats sort no_step from to = from ≡ to
      Repeats sort (step x xs) from to = (b : ℕ) × StepReads sort x from b × Repeats sort xs b to

      pub StepReads : StepSort → Step → ℕ → ℕ → Type 0
      StepReads sort Push from to = IsSuffix sort × Is from kinds.LeftBracket × Is (from + 1) kinds.RightBracket × (to ≡ from + 2)
      StepReads sort (Index e) from to = IsSuffix sort × Between kinds.LeftBracket (Reads false loosest e) kinds.RightBracket from to
      StepReads sort (Property nullsafe name es) from to = (b : ℕ) × IsSuffix sort × Is from (arrow nullsafe) × Members name (from + 1) b
          × MayBeCalled (takes_arguments sort) es b to
      StepReads sort (Scoped t es) from to = IsTrue (is_scoped sort t.kind) × Is from kinds.DoubleColon × Stands (from + 1) t
          × MayBeCalled (takes_arguments sort) es (from + 2) to
      StepReads sort (Call es) from to = IsAppended sort × Between kinds.LeftParenthesis (Lists argument es) kinds.RightParenthesis from to
      StepReads sort Increment from to = IsAppended sort × Is from kinds.Increment × (to ≡ from + 1)
      StepReads sort Decrement from to = IsAppended sort × Is from kinds.Decrement × (to ≡ from + 1)
      StepReads sort (Operation t o e) from to = (b : ℕ) × IsOperation sort o × Operates t o from b × Reads false (tighter (binary_stratum o)) e b to
      StepReads sort (Part t) from to = IsPart sort × Stands from t × IsTrue (is_part t.kind) × (to ≡ from + 1)
      StepReads sort (Inserted e) from to = IsPart sort × Between kinds.InsertionStart (Reads false loosest e) kinds.InsertionEnd from to
      StepReads (further sort) (Further x) from to = Is from kinds.Comma × ItemReads sort x (from + 1) to
      StepReads _ (Further x) from to = ⊥

      -- The bodies of an expression's closures are held.
      pub Bodies : Body → ℕ → ℕ → Type 0
      Bodies (Held first last) from to = Is from kinds.LeftBrace × (first ≡ from + 1) × IsMatched ts first last × Is last kinds.RightBrace × (to ≡ last + 1)
      Bodies (Read statements) from to = ⊥

-- the tree spells the tokens from one place to the other
abbrev pub Spells : List Token → Tree → ℕ → ℕ → Type 0
Spells ts = Reads ts (λ low k to. Unit {0}) false loosest

-- an end token follows, or nothing
abbrev pub IsEnd : List Token → ℕ → Type 0
IsEnd ts to = IsTrue (is_end (kind_at ts to))
