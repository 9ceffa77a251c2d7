-- The parser as a function on places: each rule gives what it reads, and the place behind it.
use Rattle.std.specs.Prelude.{ℕ, zero, suc, ◌+◌, ◌-◌, ◌==◌, ◌&&◌, not, if◌then◌else◌, Bool, true, false, List, [], ◌∷◌, ◌++◌, length, Option, Some, None, slice_get}
use Rattle.stan_model_grammar.specs.declared.operators.ArrayStyle.{ArrayStyle}
use Rattle.stan_model_grammar.specs.declared.operators.ArrayStyle.TheVariants as styles
use Rattle.stan_model_grammar.specs.declared.operators.AssignmentOperator.{AssignmentOperator}
use Rattle.stan_model_grammar.specs.declared.operators.BinaryOperator.{BinaryOperator}
use Rattle.stan_model_grammar.specs.declared.operators.Fixity.{Fixity}
use Rattle.stan_model_grammar.specs.declared.operators.Fixity.TheVariants as fixities
use Rattle.stan_model_grammar.specs.declared.operators.Leaf.{Leaf}
use Rattle.stan_model_grammar.specs.declared.operators.PrefixOperator.{PrefixOperator}
use Rattle.stan_model_grammar.specs.declared.operators.Production.{Production}
use Rattle.stan_model_grammar.specs.declared.operators.Production.TheVariants as productions
use Rattle.stan_model_grammar.specs.declared.operators.Visibility.{Visibility}
use Rattle.stan_model_grammar.specs.declared.token.Token.{Token}
use Rattle.stan_model_grammar.specs.declared.token.TokenKind.{TokenKind}
use Rattle.stan_model_grammar.specs.declared.token.TokenKind.TheVariants as kinds
use Rattle.stan_model_grammar.specs.Strata.{kind_at, leaf_of, prefix_of, prefix_stratum, binary_size, binary_stratum, fixity, tighter, right_side, assignment_size, loosest, names_class, names_type, names_member, names_scoped, names_argument, is_part, visibility_of}
use Rattle.stan_model_grammar.specs.Trees.{TypeTree, Nullable, Union, Tree, node, Form, Single, Brackets, Array, IsSet, Empty, Exit, New, Match, Closure, Arrow, Text, Post, Prefix, Assignment, Chain, Binary, Conditional, Items, no_item, Item, Positional, Spread, Named, Element, KeyedElement, Parameter, Captured, Arm, DefaultArm, Default, no_default, default, Arguments, no_arguments, arguments, ClassReference, NamedClass, VariableClass, ScopedClass, ComputedClass, MemberName, NamedMember, ComputedMember, Step, Push, Index, Property, Scoped, Call, Increment, Decrement, Part, Inserted, Body, Held, production, is_pattern}
use Rattle.stan_model_grammar.specs.Expressions.{is_assignable, braces_behind}
use Rattle.stan_model_grammar.specs.TreeLists.{Operated, steps, listed, operation_steps}
use Rattle.stan_expr_rules.specs.Places.{same_kind, after, may, joins_at, operator_at, assigning_at}

abbrev pub Read : Type 0 → Type 0
Read A = Option (A × ℕ)

infixl 10 ◌>>=◌
abbrev pub ◌>>=◌ : {A B : Type 0} → Option A → (A → Option B) → Option B
(Some x) >>= f = f x
None >>= f = None

-- what follows a token, or what stands there if the token does not
abbrev pub choose : {A : Type 0} → Option ℕ → (ℕ → A) → A → A
choose (Some to) f other = f to
choose None f other = other

-- a step of a loop: it takes an item, it finds none, or it fails
abbrev pub Turn : Type 0 → Type 0
Turn A = Option (Option (A × ℕ))

abbrev pub taken : {A : Type 0} → Read A → Turn A
taken (Some x) = Some (Some x)
taken None = None

-- each item in turn, as many as there are. The number bounds the turns.
abbrev mutual
  pub many : {A : Type 0} → (ℕ → Turn A) → ℕ → List A → ℕ → Read (List A)
  many turn zero found at = None
  many turn (suc n) found at = turn at >>= elim [ None ↦ Some (found, at) | Some x ↦ many turn n (found ++ x.0 ∷ []) x.1 ]

abbrev pub first_of : Tree → Token
first_of (node t f) = t

abbrev pub stands_conditional : Production → Bool
stands_conditional productions.Conditional = true
stands_conditional _ = false

abbrev pub is_conditional : Tree → Bool
is_conditional e = stands_conditional (production e)

abbrev pub stands_arrow : Production → Bool
stands_arrow productions.Arrow = true
stands_arrow _ = false

abbrev pub is_arrow : Tree → Bool
is_arrow e = stands_arrow (production e)

-- Nothing is appended to a pattern.
abbrev pub with_suffixes : Tree → List Step → ℕ → Read Tree
with_suffixes e [] at = Some (e, at)
with_suffixes e (s ∷ ss) at = if is_pattern e then None else Some (node (first_of e) (Post e (steps (s ∷ ss))), at)

abbrev pub with_operations : Tree → List Operated → Tree
with_operations e [] = e
with_operations e (o ∷ os) = node (first_of e) (Chain (binary_stratum o.operator) e (operation_steps (o ∷ os)))

module _ (ts : List Token) where
  unfoldable pub all : {A : Type 0} → (ℕ → Turn A) → ℕ → Read (List A)
  all turn at = many turn (length ts + 1) [] at

  -- ---- types

  unfoldable pub type_name : ℕ → Read Token
  type_name at = slice_get ts at >>= λ t. if names_type t.kind then Some (t, at + 1) else None

  unfoldable pub alternative : ℕ → Turn Token
  alternative at = choose (after ts kinds.Bar at) (λ to. taken (type_name to)) (Some None)

  unfoldable pub alternatives : ℕ → Read (List Token)
  alternatives at = all alternative at

  unfoldable pub union : ℕ → Read TypeTree
  union at = do
    t ← type_name at
    more ← alternatives t.1
    Some (Union t.0 more.0, more.1)

  unfoldable pub nullable : Token → ℕ → Read TypeTree
  nullable first at = do
    t ← type_name at
    Some (Nullable first t.0, t.1)

  abbrev pub type_by : Option Token → ℕ → Read TypeTree
  type_by None at = None
  type_by (Some t) at = if same_kind t.kind kinds.Question then nullable t (at + 1) else union at

  unfoldable pub type_tree : ℕ → Read TypeTree
  type_tree at = type_by (slice_get ts at) at

  unfoldable pub some_type : ℕ → Read (Option TypeTree)
  some_type at = do
    t ← type_tree at
    Some (Some t.0, t.1)

  abbrev pub begins_type : TokenKind → Bool
  begins_type kinds.Question = true
  begins_type kind = names_type kind

  unfoldable pub may_type : ℕ → Read (Option TypeTree)
  may_type at = if begins_type (kind_at ts at) then some_type at else Some (None, at)

  unfoldable pub may_return : ℕ → Read (Option TypeTree)
  may_return at = choose (after ts kinds.Colon at) some_type (Some (None, at))

  -- ---- bodies

  abbrev mutual
    -- the place of the brace that closes the open ones
    pub closing_within : ℕ → ℕ → ℕ → Option ℕ
    closing_within zero open_braces at = None
    closing_within (suc n) open_braces at = slice_get ts at >>= λ t. if braces_behind open_braces t == 0 then Some at else closing_within n (braces_behind open_braces t) (at + 1)

  unfoldable pub closing : ℕ → Option ℕ
  closing at = closing_within (length ts + 1) 1 at

  unfoldable pub body : ℕ → Read Body
  body at = do
    from ← after ts kinds.LeftBrace at
    last ← closing from
    to ← after ts kinds.RightBrace last
    Some (Held from last, to)

  -- ---- words that may stand

  abbrev pub visibility_by : Option Visibility → ℕ → Option Visibility × ℕ
  visibility_by None at = (None, at)
  visibility_by (Some v) at = (Some v, at + 1)

  unfoldable pub visibility : ℕ → Option Visibility × ℕ
  visibility at = visibility_by (visibility_of (kind_at ts at)) at

-- below pattern k is the parser of what stands a level deeper, at stratum k
module _ (ts : List Token) (below : Bool → ℕ → ℕ → Read Tree) where
  unfoldable pub enclosed : TokenKind → TokenKind → ℕ → Read Tree
  enclosed opening closing at = do
    from ← after ts opening at
    e ← below false loosest from
    to ← after ts closing e.1
    Some (e.0, to)

  -- ---- items

  unfoldable pub spread : ℕ → Read Item
  spread at = do
    e ← below false loosest at
    Some (Spread e.0, e.1)

  unfoldable pub positional : ℕ → Read Item
  positional at = do
    e ← below false loosest at
    Some (Positional e.0, e.1)

  unfoldable pub named_with : Token → ℕ → Read Item
  named_with t at = do
    e ← below false loosest at
    Some (Named t e.0, e.1)

  -- at a name with `:` behind it, and a value from `to` on
  unfoldable pub named : ℕ → ℕ → Read Item
  named at to = slice_get ts at >>= λ t. if names_argument t.kind then named_with t to else None

  unfoldable pub unspread : ℕ → Read Item
  unspread at = choose (after ts kinds.Colon (at + 1)) (λ to. named at to) (positional at)

  unfoldable pub argument_at : ℕ → Read Item
  argument_at at = choose (after ts kinds.Ellipsis at) (λ to. spread to) (unspread at)

  unfoldable pub keyed_with : Tree → Bool → ℕ → Read Item
  keyed_with key reference at = do
    e ← below true loosest at
    Some (KeyedElement key reference e.0, e.1)

  unfoldable pub keyed : Tree → ℕ → Read Item
  keyed key at = if is_pattern key then None else keyed_with key (may ts kinds.Ampersand at).0 (may ts kinds.Ampersand at).1

  unfoldable pub referenced : ℕ → Read Item
  referenced at = do
    e ← below true loosest at
    Some (Element true e.0, e.1)

  unfoldable pub value : ℕ → Read Item
  value at = do
    e ← below true loosest at
    choose (after ts kinds.DoubleArrow e.1) (λ to. keyed e.0 to) (Some (Element false e.0, e.1))

  unfoldable pub unspread_element : ℕ → Read Item
  unspread_element at = choose (after ts kinds.Ampersand at) (λ to. referenced to) (value at)

  unfoldable pub element_at : ℕ → Read Item
  element_at at = choose (after ts kinds.Ellipsis at) (λ to. spread to) (unspread_element at)

  unfoldable pub some_default : ℕ → Read Default
  some_default at = do
    e ← below false loosest at
    Some (default e.0, e.1)

  unfoldable pub may_default : ℕ → Read Default
  may_default at = choose (after ts kinds.Assign at) (λ to. some_default to) (Some (no_default, at))

  -- behind the type
  unfoldable pub parameter_with : Option Visibility → Option TypeTree → ℕ → Read Item
  parameter_with v type at = do
    t ← slice_get ts (may ts kinds.Ellipsis (may ts kinds.Ampersand at).1).1
    to ← after ts kinds.Variable (may ts kinds.Ellipsis (may ts kinds.Ampersand at).1).1
    e ← may_default to
    Some (Parameter v type (may ts kinds.Ampersand at).0 (may ts kinds.Ellipsis (may ts kinds.Ampersand at).1).0 t e.0, e.1)

  unfoldable pub parameter_at : ℕ → Read Item
  parameter_at at = do
    type ← may_type ts (visibility ts at).1
    parameter_with (visibility ts at).0 type.0 type.1

  unfoldable pub captured_at : ℕ → Read Item
  captured_at at = do
    t ← slice_get ts at
    to ← after ts kinds.Variable at
    Some (Captured t, to)

  -- ---- lists

  -- a further item, if a `,` comes next and not the closing token behind it
  unfoldable pub further_after : (ℕ → Read Item) → TokenKind → ℕ → Turn Item
  further_after item closing at = choose (after ts closing at) (λ to. Some None) (taken (item at))

  unfoldable pub further_item : (ℕ → Read Item) → TokenKind → ℕ → Turn Item
  further_item item closing at = choose (after ts kinds.Comma at) (λ to. further_after item closing to) (Some None)

  unfoldable pub more_items : (ℕ → Read Item) → TokenKind → Item → ℕ → Read (List Item)
  more_items item closing first at = many (further_item item closing) (length ts + 1) (first ∷ []) at

  unfoldable pub some_items : (ℕ → Read Item) → TokenKind → ℕ → Read Items
  some_items item closing at = do
    first ← item at
    more ← more_items item closing first.0 first.1
    Some (listed more.0 (may ts kinds.Comma more.1).0, (may ts kinds.Comma more.1).1)

  unfoldable pub list_items : (ℕ → Read Item) → TokenKind → ℕ → Read Items
  list_items item closing at = choose (after ts closing at) (λ to. Some (no_item, at)) (some_items item closing at)

  -- with the tokens around it
  unfoldable pub fenced : (ℕ → Read Item) → TokenKind → TokenKind → ℕ → Read Items
  fenced item opening closing at = do
    from ← after ts opening at
    es ← list_items item closing from
    to ← after ts closing es.1
    Some (es.0, to)

  -- with at least one
  unfoldable pub fenced_some : (ℕ → Read Item) → ℕ → Read Items
  fenced_some item at = do
    from ← after ts kinds.LeftParenthesis at
    es ← some_items item kinds.RightParenthesis from
    to ← after ts kinds.RightParenthesis es.1
    Some (es.0, to)

  unfoldable pub default_arm : ℕ → Read Item
  default_arm at = do
    from ← after ts kinds.DoubleArrow (may ts kinds.Comma at).1
    e ← below false loosest from
    Some (DefaultArm (may ts kinds.Comma at).0 e.0, e.1)

  unfoldable pub conditions_arm : ℕ → Read Item
  conditions_arm at = do
    es ← some_items positional kinds.DoubleArrow at
    from ← after ts kinds.DoubleArrow es.1
    e ← below false loosest from
    Some (Arm es.0 e.0, e.1)

  unfoldable pub arm_at : ℕ → Read Item
  arm_at at = choose (after ts kinds.Default at) (λ to. default_arm to) (conditions_arm at)

  unfoldable pub may_capture : ℕ → Read Items
  may_capture at = choose (after ts kinds.Use at) (λ to. fenced_some captured_at to) (Some (no_item, at))

  unfoldable pub parameters : ℕ → Read Items
  parameters at = fenced parameter_at kinds.LeftParenthesis kinds.RightParenthesis at

  -- ---- what is appended

  unfoldable pub some_arguments : ℕ → Read Arguments
  some_arguments at = do
    es ← fenced argument_at kinds.LeftParenthesis kinds.RightParenthesis at
    Some (arguments es.0, es.1)

  unfoldable pub may_be_called : ℕ → Read Arguments
  may_be_called at = choose (after ts kinds.LeftParenthesis at) (λ to. some_arguments at) (Some (no_arguments, at))

  unfoldable pub called : Bool → ℕ → Read Arguments
  called callable at = if callable then may_be_called at else Some (no_arguments, at)

  unfoldable pub computed_member : ℕ → Read MemberName
  computed_member at = do
    e ← enclosed kinds.LeftBrace kinds.RightBrace at
    Some (ComputedMember e.0, e.1)

  unfoldable pub named_member : ℕ → Read MemberName
  named_member at = slice_get ts at >>= λ t. if names_member t.kind then Some (NamedMember t, at + 1) else None

  unfoldable pub member : ℕ → Read MemberName
  member at = choose (after ts kinds.LeftBrace at) (λ to. computed_member at) (named_member at)

  unfoldable pub property : Bool → Bool → ℕ → Read Step
  property callable nullsafe at = do
    name ← member at
    es ← called callable name.1
    Some (Property nullsafe name.0 es.0, es.1)

  unfoldable pub scoped_with : Bool → Token → ℕ → Read Step
  scoped_with callable t at = do
    es ← called callable at
    Some (Scoped t es.0, es.1)

  -- behind `::`
  unfoldable pub scoped : ℕ → Read Step
  scoped at = slice_get ts at >>= λ t. if names_scoped t.kind then scoped_with true t (at + 1) else None

  -- of the class of a `new`, only before a variable
  unfoldable pub class_scoped : ℕ → Turn Step
  class_scoped at = choose (after ts kinds.Variable at) (λ to. taken (slice_get ts at >>= λ t. scoped_with false t to)) (Some None)

  unfoldable pub index : ℕ → Read Step
  index at = do
    e ← enclosed kinds.LeftBracket kinds.RightBracket at
    Some (Index e.0, e.1)

  -- at `[`
  unfoldable pub bracket : ℕ → Read Step
  bracket at = choose (after ts kinds.RightBracket (at + 1)) (λ to. Some (Push, to)) (index at)

  unfoldable pub call : ℕ → Read Step
  call at = do
    es ← fenced argument_at kinds.LeftParenthesis kinds.RightParenthesis at
    Some (Call es.0, es.1)

  abbrev pub suffix_by : TokenKind → ℕ → Turn Step
  suffix_by kinds.LeftBracket at = taken (bracket at)
  suffix_by kinds.Arrow at = taken (property true false (at + 1))
  suffix_by kinds.NullsafeArrow at = taken (property true true (at + 1))
  suffix_by kinds.DoubleColon at = taken (scoped (at + 1))
  suffix_by kinds.LeftParenthesis at = taken (call at)
  suffix_by kinds.Increment at = Some (Some (Increment, at + 1))
  suffix_by kinds.Decrement at = Some (Some (Decrement, at + 1))
  suffix_by _ at = Some None

  unfoldable pub suffix_at : ℕ → Turn Step
  suffix_at at = suffix_by (kind_at ts at) at

  unfoldable pub suffixes : ℕ → Read (List Step)
  suffixes at = all ts suffix_at at

  abbrev pub class_suffix_by : TokenKind → ℕ → Turn Step
  class_suffix_by kinds.LeftBracket at = taken (bracket at)
  class_suffix_by kinds.Arrow at = taken (property false false (at + 1))
  class_suffix_by kinds.NullsafeArrow at = taken (property false true (at + 1))
  class_suffix_by kinds.DoubleColon at = class_scoped (at + 1)
  class_suffix_by _ at = Some None

  unfoldable pub class_suffix_at : ℕ → Turn Step
  class_suffix_at at = class_suffix_by (kind_at ts at) at

  unfoldable pub class_suffixes : ℕ → Read (List Step)
  class_suffixes at = all ts class_suffix_at at

  -- ---- `new`

  unfoldable pub variable_class : Token → ℕ → Read ClassReference
  variable_class t at = do
    ss ← class_suffixes at
    Some (VariableClass t (steps ss.0), ss.1)

  unfoldable pub scoped_class : Token → Token → ℕ → Read ClassReference
  scoped_class t u at = do
    ss ← class_suffixes at
    Some (ScopedClass t u (steps ss.0), ss.1)

  unfoldable pub computed_class : ℕ → Read ClassReference
  computed_class at = do
    e ← enclosed kinds.LeftParenthesis kinds.RightParenthesis at
    Some (ComputedClass e.0, e.1)

  -- a name, and perhaps `::` and a variable behind it
  unfoldable pub behind_class : Token → ℕ → Read ClassReference
  behind_class t at = choose (after ts kinds.Variable (at + 1)) (λ to. slice_get ts (at + 1) >>= λ u. scoped_class t u to) (Some (NamedClass t, at))

  unfoldable pub named_class : Token → ℕ → Read ClassReference
  named_class t at = choose (after ts kinds.DoubleColon at) (λ to. behind_class t at) (Some (NamedClass t, at))

  abbrev pub class_by : Token → ℕ → Read ClassReference
  class_by t at = if same_kind t.kind kinds.Variable then variable_class t (at + 1) else (if names_class t.kind then named_class t (at + 1) else computed_class at)

  unfoldable pub class_reference : ℕ → Read ClassReference
  class_reference at = slice_get ts at >>= λ t. class_by t at

  -- behind `new`
  unfoldable pub new : ℕ → Read Form
  new at = do
    class ← class_reference at
    es ← may_be_called class.1
    Some (New class.0 es.0, es.1)

  -- ---- what stands alone

  unfoldable pub brackets : ℕ → Read Form
  brackets at = do
    e ← enclosed kinds.LeftParenthesis kinds.RightParenthesis at
    Some (Brackets e.0, e.1)

  unfoldable pub short_array : ℕ → Read Form
  short_array at = do
    es ← fenced element_at kinds.LeftBracket kinds.RightBracket at
    Some (Array styles.Brackets es.0, es.1)

  -- behind the word
  unfoldable pub long_array : ArrayStyle → ℕ → Read Form
  long_array style at = do
    es ← fenced element_at kinds.LeftParenthesis kinds.RightParenthesis at
    Some (Array style es.0, es.1)

  unfoldable pub is_set : ℕ → Read Form
  is_set at = do
    es ← fenced_some positional at
    Some (IsSet es.0, es.1)

  unfoldable pub empty : ℕ → Read Form
  empty at = do
    e ← enclosed kinds.LeftParenthesis kinds.RightParenthesis at
    Some (Empty e.0, e.1)

  unfoldable pub exit : ℕ → Read Form
  exit at = do
    es ← may_be_called at
    Some (Exit es.0, es.1)

  unfoldable pub match_form : ℕ → Read Form
  match_form at = do
    e ← enclosed kinds.LeftParenthesis kinds.RightParenthesis at
    arms ← fenced arm_at kinds.LeftBrace kinds.RightBrace e.1
    Some (Match e.0 arms.0, arms.1)

  -- behind `function`
  unfoldable pub closure : Bool → ℕ → Read Form
  closure static at = do
    ps ← parameters (may ts kinds.Ampersand at).1
    captures ← may_capture ps.1
    type ← may_return ts captures.1
    b ← body ts type.1
    Some (Closure static (may ts kinds.Ampersand at).0 ps.0 captures.0 type.0 b.0, b.1)

  -- behind `fn`
  unfoldable pub arrow : Bool → ℕ → Read Form
  arrow static at = do
    ps ← parameters (may ts kinds.Ampersand at).1
    type ← may_return ts ps.1
    from ← after ts kinds.DoubleArrow type.1
    e ← below false loosest from
    Some (Arrow static (may ts kinds.Ampersand at).0 ps.0 type.0 e.0, e.1)

  unfoldable pub inserted : ℕ → Read Step
  inserted at = do
    e ← enclosed kinds.InsertionStart kinds.InsertionEnd at
    Some (Inserted e.0, e.1)

  unfoldable pub part_by : Token → ℕ → Turn Step
  part_by t at = if is_part t.kind then Some (Some (Part t, at + 1)) else (if same_kind t.kind kinds.InsertionStart then taken (inserted at) else Some None)

  unfoldable pub part_at : ℕ → Turn Step
  part_at at = slice_get ts at >>= λ t. part_by t at

  unfoldable pub parts : ℕ → Read (List Step)
  parts at = all ts part_at at

  -- behind the quote
  unfoldable pub text : ℕ → Read Form
  text at = do
    ps ← parts at
    to ← after ts kinds.TextEnd ps.1
    Some (Text (steps ps.0), to)

  abbrev pub leaf : Option Leaf → ℕ → Read Form
  leaf None at = None
  leaf (Some l) at = Some (Single l, at)

  -- behind `static`
  unfoldable pub static_word : ℕ → Read Form
  static_word at = choose (after ts kinds.Function at) (λ to. closure true to) (choose (after ts kinds.Fn at) (λ to. arrow true to) (leaf (leaf_of kinds.Static) at))

  -- at a token of this kind
  abbrev pub form_by : TokenKind → ℕ → Read Form
  form_by kinds.LeftParenthesis at = brackets at
  form_by kinds.LeftBracket at = short_array at
  form_by kinds.Array at = long_array styles.Array (at + 1)
  form_by kinds.List at = long_array styles.List (at + 1)
  form_by kinds.IsSet at = is_set (at + 1)
  form_by kinds.Empty at = empty (at + 1)
  form_by kinds.Exit at = exit (at + 1)
  form_by kinds.Die at = exit (at + 1)
  form_by kinds.Match at = match_form (at + 1)
  form_by kinds.Function at = closure false (at + 1)
  form_by kinds.Fn at = arrow false (at + 1)
  form_by kinds.Static at = static_word (at + 1)
  form_by kinds.TextStart at = text (at + 1)
  form_by kind at = leaf (leaf_of kind) (at + 1)

  -- ---- operands

  unfoldable pub atom_with : Token → ℕ → Read Tree
  atom_with t at = do
    f ← form_by t.kind at
    Some (node t f.0, f.1)

  unfoldable pub suffixed : Tree → ℕ → Read Tree
  suffixed e at = do
    ss ← suffixes at
    with_suffixes e ss.0 ss.1

  -- nothing is appended to an arrow function
  unfoldable pub post_with : Token → ℕ → Read Tree
  post_with t at = do
    e ← atom_with t at
    if is_arrow e.0 then Some e else suffixed e.0 e.1

  unfoldable pub new_with : Token → ℕ → Read Tree
  new_with t at = do
    f ← new (at + 1)
    Some (node t f.0, f.1)

  -- nothing is appended to a `new`
  unfoldable pub post : Token → ℕ → Read Tree
  post t at = if same_kind t.kind kinds.New then new_with t at else post_with t at

  unfoldable pub assigned : Tree → AssignmentOperator → ℕ → Read Tree
  assigned target o at = do
    e ← below false 24 at
    Some (node (first_of target) (Assignment target o e.0), e.1)

  -- what stands before an assignment, or before none
  abbrev pub target_by : Bool → Option AssignmentOperator → Tree → ℕ → Read Tree
  target_by pattern None e at = if is_pattern e && not pattern then None else Some (e, at)
  target_by pattern (Some o) e at = if is_assignable o e then assigned e o (at + assignment_size o) else None

  unfoldable pub target : Bool → Token → ℕ → Read Tree
  target pattern t at = do
    e ← post t at
    target_by pattern (assigning_at ts e.1) e.0 e.1

  unfoldable pub prefixed : Token → PrefixOperator → ℕ → Read Tree
  prefixed t o at = do
    e ← below false (prefix_stratum o) at
    Some (node t (Prefix o e.0), e.1)

  abbrev pub operand_by : Bool → Token → Option PrefixOperator → ℕ → Read Tree
  operand_by pattern t None at = target pattern t at
  operand_by pattern t (Some o) at = prefixed t o (at + 1)

  unfoldable pub operand : Bool → ℕ → Read Tree
  operand pattern at = slice_get ts at >>= λ t. operand_by pattern t (prefix_of t.kind) at

  -- ---- operators

  -- at the operator
  unfoldable pub operation_with : BinaryOperator → ℕ → Read Operated
  operation_with o at = do
    t ← slice_get ts at
    e ← below false (tighter (binary_stratum o)) (at + binary_size o)
    Some (record { token = t; operator = o; operand = e.0 }, e.1)

  abbrev pub operation_by : ℕ → Option BinaryOperator → ℕ → Turn Operated
  operation_by j None at = Some None
  operation_by j (Some o) at = if binary_stratum o == j then taken (operation_with o at) else Some None

  -- a further operator of stratum j with its operand
  unfoldable pub operation_at : ℕ → ℕ → Turn Operated
  operation_at j at = operation_by j (operator_at ts at) at

  unfoldable pub operations : ℕ → ℕ → Read (List Operated)
  operations j at = all ts (operation_at j) at

  unfoldable pub chain : ℕ → Tree → ℕ → Read Tree
  chain j e at = do
    os ← operations j at
    Some (with_operations e os.0, os.1)

  -- at the operator
  unfoldable pub binary : Tree → BinaryOperator → ℕ → Read Tree
  binary d o at = do
    t ← slice_get ts at
    e ← below false (right_side (fixity o) (binary_stratum o)) (at + binary_size o)
    Some (node (first_of d) (Binary d t o e.0), e.1)

  -- behind the `?`
  unfoldable pub conditional : Tree → ℕ → Read Tree
  conditional c at = do
    d ← below false loosest at
    from ← after ts kinds.Colon d.1
    e ← below false 21 from
    Some (node (first_of c) (Conditional c d.0 e.0), e.1)

  abbrev pub by_fixity : Fixity → BinaryOperator → Tree → ℕ → Read Tree
  by_fixity fixities.Left o e at = chain (binary_stratum o) e at
  by_fixity _ o e at = binary e o at

  -- at an operator, or at `?`
  abbrev pub operated_by : Option BinaryOperator → Tree → ℕ → Read Tree
  operated_by None e at = conditional e (at + 1)
  operated_by (Some o) e at = by_fixity (fixity o) o e at

  -- A chain of `?:` does not begin with `? :`.
  unfoldable pub operated : ℕ → Tree → ℕ → Read Tree
  operated j e at = if is_pattern e then None else (if (j == 23) && is_conditional e then Some (e, at) else operated_by (operator_at ts at) e at)

  unfoldable pub stratum : ℕ → Tree → ℕ → Read Tree
  stratum j e at = if joins_at ts at == j then operated j e at else Some (e, at)

  -- an operand, and the operators of the n strata behind it
  unfoldable pub strata : Bool → ℕ → ℕ → Read Tree
  strata pattern zero at = operand pattern at
  strata pattern (suc n) at = do
    e ← strata pattern n at
    stratum (n + 6) e.0 e.1

-- what stands a level deeper, where n levels are left
unfoldable pub below : List Token → ℕ → Bool → ℕ → ℕ → Read Tree
below ts zero pattern k at = None
below ts (suc n) pattern k at = strata ts (below ts n) pattern (k - 5) at

-- an expression with at most this many levels
unfoldable pub expression_at : List Token → ℕ → ℕ → Read Tree
expression_at ts n at = strata ts (below ts n) false (loosest - 5) at
