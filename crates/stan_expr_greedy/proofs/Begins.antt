-- Which tokens begin an expression, an item of a list and a parameter.
use Rattle.std.proofs.Common.{◌≡◌, ℕ, ◌-◌, Bool, true, false, Option, Some, None, List, refl, ap, ◌∙◌}
use Rattle.std.specs.Prelude.{◌||◌, is_some, IsTrue}
use Rattle.stan_model_grammar.specs.declared.operators.ArrayStyle.TheVariants as styles
use Rattle.stan_model_grammar.specs.declared.operators.Leaf.{Leaf}
use Rattle.stan_model_grammar.specs.declared.operators.PrefixOperator.{PrefixOperator}
use Rattle.stan_model_grammar.specs.declared.operators.Visibility.{Visibility}
use Rattle.stan_model_grammar.specs.declared.token.Token.{Token}
use Rattle.stan_model_grammar.specs.declared.token.TokenKind.{TokenKind}
use Rattle.stan_model_grammar.specs.declared.token.TokenKind.TheVariants as kinds
use Rattle.stan_model_grammar.specs.Strata.{kind_at, leaf_of, prefix_of, loosest, binary_stratum, tighter, names_type, names_argument, is_exit, visibility_of}
use Rattle.stan_model_grammar.specs.Trees.{TypeTree, Nullable, Union, Tree, node, Form, Single, Brackets, Array, IsSet, Empty, Exit, New, Match, Closure, Arrow, Text, Post, Prefix, Assignment, Chain, Binary, Conditional, Items, no_item, items, Item, Positional, Spread, Named, Element, KeyedElement, Parameter, Captured, Arm, DefaultArm}
use Rattle.stan_model_grammar.specs.Expressions.{ItemSort, argument, element, expression, parameter, captured, arm, IsSomeItem, Is, May, MayBeVisible, Types, MayBeTyped, Reads, Forms, Lists, ItemReads}
use Rattle.stan_expr_rules.specs.Parse.{begins_type}
use Rattle.stan_expr_rules.proofs.InsideLemmas.{stands_kind}
use Rattle.stan_expr_rules.proofs.Choices.{nothing_is}

-- ---- expressions

-- what begins one, apart from prefixes and single tokens
abbrev opens : TokenKind → Bool
opens kinds.LeftParenthesis = true
opens kinds.LeftBracket = true
opens kinds.Array = true
opens kinds.List = true
opens kinds.IsSet = true
opens kinds.Empty = true
opens kinds.Exit = true
opens kinds.Die = true
opens kinds.New = true
opens kinds.Match = true
opens kinds.Function = true
opens kinds.Fn = true
opens kinds.TextStart = true
opens _ = false

-- whether an expression may begin with it
abbrev pub begins : TokenKind → Bool
begins kind = is_some (prefix_of kind) || (is_some (leaf_of kind) || opens kind)

pub clash : (A : Type 0) → false ≡ true → A
clash A h = absurd cc

second : (x y : Bool) → (x || (true || y)) ≡ true
second true y = refl
second false y = refl

leaf_begins : (kind : TokenKind) (leaf : Leaf) → leaf_of kind ≡ Some leaf → begins kind ≡ true
leaf_begins kind leaf h = rw h (second (is_some (prefix_of kind)) (opens kind))

prefix_begins : (kind : TokenKind) (o : PrefixOperator) → prefix_of kind ≡ Some o → begins kind ≡ true
prefix_begins kind o h = rw h refl

exit_begins : (kind : TokenKind) → IsTrue (is_exit kind) → begins kind ≡ true
exit_begins kinds.Exit h = refl
exit_begins kinds.Die h = refl
exit_begins kind h = clash _ h

module _ (ts : List Token) (Stops : ℕ → ℕ → ℕ → Type 0) where
  mutual
    -- an expression begins with such a token
    pub tree_begins : (t : Tree) (p : Bool) (k at to : ℕ) → Reads ts Stops p k t at to → begins (kind_at ts at) ≡ true
    tree_begins (node t f) p k at to h = form_begins f p k at to h.1

    form_begins : (f : Form) (p : Bool) (k at to : ℕ) → Forms ts Stops p k f at to → begins (kind_at ts at) ≡ true
    form_begins (Single leaf) p k at to h = leaf_begins (kind_at ts at) leaf h.0
    form_begins (Brackets e) p k at to h = ap begins h.0.1
    form_begins (Array styles.Brackets es) p k at to h = ap begins h.1.1
    form_begins (Array styles.Array es) p k at to h = ap begins h.1
    form_begins (Array styles.List es) p k at to h = ap begins h.1
    form_begins (IsSet es) p k at to h = ap begins h.1
    form_begins (Empty e) p k at to h = ap begins h.0
    form_begins (Exit es) p k at to h = exit_begins (kind_at ts at) h.0
    form_begins (New class es) p k at to h = ap begins h.2
    form_begins (Match e arms) p k at to h = ap begins h.1
    form_begins (Closure true reference parameters captures type body) p k at to h = ap begins h.5.0
    form_begins (Closure false reference parameters captures type body) p k at to h = rw (← h.5) at (ap begins h.6)
    form_begins (Arrow true reference parameters type e) p k at to h = ap begins h.4.0
    form_begins (Arrow false reference parameters type e) p k at to h = rw (← h.4) at (ap begins h.5)
    form_begins (Text parts) p k at to h = ap begins h.0.1
    form_begins (Post e ss) p k at to h = tree_begins e false 0 at h.0 h.3
    form_begins (Prefix o e) p k at to h = prefix_begins (kind_at ts at) o h.1
    form_begins (Assignment target o e) p k at to h = tree_begins target true 4 at h.0 h.4
    form_begins (Chain j e ss) p k at to h = tree_begins e false (tighter j) at h.0 h.4
    form_begins (Binary d sign o e) p k at to h = tree_begins d false (binary_stratum o - 1) at h.0 h.4
    form_begins (Conditional c d e) p k at to h = tree_begins c false 21 at h.0 h.3

  pub expression_begins : (x : Item) (at to : ℕ) → ItemReads ts Stops expression x at to → begins (kind_at ts at) ≡ true
  expression_begins (Positional e) at to h = tree_begins e false loosest at to h
  expression_begins x at to h = absurd h

  pub expressions_begin : (es : Items) (at to : ℕ) → IsSomeItem es → Lists ts Stops expression es at to → begins (kind_at ts at) ≡ true
  expressions_begin no_item at to some h = absurd some
  expressions_begin (items x xs comma) at to some h = expression_begins x at h.0 h.2

-- ---- items

-- what ends a list
abbrev pub closes : TokenKind → Bool
closes kinds.RightParenthesis = true
closes kinds.RightBracket = true
closes kinds.RightBrace = true
closes kinds.DoubleArrow = true
closes _ = false

begins_inside : (kind : TokenKind) → begins kind ≡ true → closes kind ≡ false
begins_inside kinds.RightParenthesis h = clash _ h
begins_inside kinds.RightBracket h = clash _ h
begins_inside kinds.RightBrace h = clash _ h
begins_inside kinds.DoubleArrow h = clash _ h
begins_inside kind h = refl

argument_inside : (kind : TokenKind) → IsTrue (names_argument kind) → closes kind ≡ false
argument_inside kinds.RightParenthesis h = clash _ h
argument_inside kinds.RightBracket h = clash _ h
argument_inside kinds.RightBrace h = clash _ h
argument_inside kinds.DoubleArrow h = clash _ h
argument_inside kind h = refl

-- behind the type of a parameter
abbrev pub behind_type : TokenKind → Bool
behind_type kinds.Ampersand = true
behind_type kinds.Ellipsis = true
behind_type kinds.Variable = true
behind_type _ = false

first_holds : (x y : Bool) → x ≡ true → (x || y) ≡ true
first_holds true y h = refl
first_holds false y h = clash _ h

second_holds : (x y : Bool) → y ≡ true → (x || y) ≡ true
second_holds true y h = refl
second_holds false y h = h

visible_inside : (kind : TokenKind) (v : Visibility) → visibility_of kind ≡ Some v → closes kind ≡ false
visible_inside kinds.RightParenthesis v h = absurd (nothing_is v h)
visible_inside kinds.RightBracket v h = absurd (nothing_is v h)
visible_inside kinds.RightBrace v h = absurd (nothing_is v h)
visible_inside kinds.DoubleArrow v h = absurd (nothing_is v h)
visible_inside kind v h = refl

module _ (ts : List Token) where
  -- behind the visibility of a parameter
  abbrev pub behind_visibility : TokenKind → Bool
  behind_visibility kind = begins_type ts kind || behind_type kind

  type_begins : (kind : TokenKind) → IsTrue (names_type kind) → begins_type ts kind ≡ true
  type_begins kinds.Question h = refl
  type_begins kind h = h

  behind_inside : (kind : TokenKind) → behind_visibility kind ≡ true → closes kind ≡ false
  behind_inside kinds.RightParenthesis h = clash _ h
  behind_inside kinds.RightBracket h = clash _ h
  behind_inside kinds.RightBrace h = clash _ h
  behind_inside kinds.DoubleArrow h = clash _ h
  behind_inside kind h = refl

  -- no visibility stands where a type may begin
  pub no_visibility : (kind : TokenKind) → behind_visibility kind ≡ true → visibility_of kind ≡ None
  no_visibility kinds.Public h = clash _ h
  no_visibility kinds.Protected h = clash _ h
  no_visibility kinds.Private h = clash _ h
  no_visibility kind h = refl

  -- no type stands where one has ended
  pub no_type : (kind : TokenKind) → behind_type kind ≡ true → begins_type ts kind ≡ false
  no_type kinds.Ampersand h = refl
  no_type kinds.Ellipsis h = refl
  no_type kinds.Variable h = refl
  no_type kind h = clash _ h

module _ (ts : List Token) (Stops : ℕ → ℕ → ℕ → Type 0) where
  pub reference_begins : (reference variadic : Bool) (at b to : ℕ) → May ts reference kinds.Ampersand at b → May ts variadic kinds.Ellipsis b to → Is ts to kinds.Variable → behind_type (kind_at ts at) ≡ true
  reference_begins true variadic at b to h g v = ap behind_type h.0
  reference_begins false true at b to h g v = rw (← h) at (ap behind_type g.0)
  reference_begins false false at b to h g v = let e : at ≡ to = h ∙ g in rw (← e) at (ap behind_type v)

  pub type_is_begun : (type : TypeTree) (at to : ℕ) → Types ts type at to → begins_type ts (kind_at ts at) ≡ true
  type_is_begun (Nullable first t) at to h = ap (begins_type ts) h.1
  type_is_begun (Union t more) at to h = rw (stands_kind ts at t h.1.0) (type_begins ts t.kind h.1.1)

  pub may_type_begins : (type : Option TypeTree) (at to : ℕ) → MayBeTyped ts type at to → behind_type (kind_at ts to) ≡ true → behind_visibility ts (kind_at ts at) ≡ true
  may_type_begins (Some type) at to h behind = first_holds (begins_type ts (kind_at ts at)) (behind_type (kind_at ts at)) (type_is_begun type at to h)
  may_type_begins None at to h behind = second_holds (begins_type ts (kind_at ts at)) (behind_type (kind_at ts at)) (rw (← h) at behind)

  visibility_begins : (v : Option Visibility) (at to : ℕ) → MayBeVisible ts v at to → behind_visibility ts (kind_at ts to) ≡ true → closes (kind_at ts at) ≡ false
  visibility_begins (Some v) at to h behind = visible_inside (kind_at ts at) v h.0
  visibility_begins None at to h behind = behind_inside ts (kind_at ts at) (rw (← h) at behind)

  reads_inside_list : (e : Tree) (p : Bool) (k at to : ℕ) → Reads ts Stops p k e at to → closes (kind_at ts at) ≡ false
  reads_inside_list e p k at to h = begins_inside (kind_at ts at) (tree_begins ts Stops e p k at to h)

  -- no item begins with a token that ends a list
  pub item_begins : (x : Item) (sort : ItemSort) (at to : ℕ) → ItemReads ts Stops sort x at to → closes (kind_at ts at) ≡ false
  item_begins (Positional e) argument at to h = reads_inside_list e false loosest at to h.1
  item_begins (Positional e) expression at to h = reads_inside_list e false loosest at to h
  item_begins (Spread e) argument at to h = ap closes h.0
  item_begins (Spread e) element at to h = ap closes h.0
  item_begins (Named t e) argument at to h = rw (stands_kind ts at t h.0) (argument_inside t.kind h.1)
  item_begins (Element true e) element at to h = ap closes h.1.0
  item_begins (Element false e) element at to h = rw (← h.1) at (reads_inside_list e true loosest h.0 to h.2)
  item_begins (KeyedElement key reference e) element at to h = reads_inside_list key false loosest at h.0 h.2
  item_begins (Parameter visibility type reference variadic t value) parameter at to h =
      visibility_begins visibility at h.0 h.4 (may_type_begins type h.0 h.1 h.5 (reference_begins reference variadic h.1 h.2 h.3 h.6 h.7 h.9))
  item_begins (Captured t) captured at to h = ap closes h.1
  item_begins (Arm conditions e) arm at to h = begins_inside (kind_at ts at) (expressions_begin ts Stops conditions at h.0 h.1 h.2)
  item_begins (DefaultArm comma e) arm at to h = ap closes h.1
  item_begins _ _ at to h = absurd h
