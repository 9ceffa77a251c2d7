-- Each production is the one that its first tokens ask for.
use Rattle.std.proofs.Common.{◌≡◌, ℕ, ◌+◌, ◌<◌, Bool, true, false, List, [], ◌∷◌, Some, None, refl, sym, ap, subst, ◌∙◌, inl, inr, arith, ◌&&◌, true≢false}
use Rattle.std.specs.Prelude.{◌||◌, if◌then◌else◌}
use Rattle.stan_model_grammar.specs.declared.token.Token.{Token}
use Rattle.stan_model_grammar.specs.declared.token.TokenKind.{TokenKind}
use Rattle.stan_model_grammar.specs.declared.token.TokenKind.TheVariants as k
use Rattle.stan_model_grammar.specs.Strata.{kind_at}
use Rattle.stan_model_grammar.specs.Takes.{size as tree_size}
use Rattle.stan_model_grammar.specs.Trees.{Tree}
use Rattle.stan_model_statements.specs.Kinds.{same_kind, has, names, statics, ends, visibilities, class_modifiers, modifiers, property_type_names, type_names, member_names, alias_names}
use Rattle.stan_model_statements.specs.Symbols.{Sort, NamespaceName, Tops, UseKind, UseItem, FurtherUseItem, UseAlias, GroupItems, GroupItem, FurtherGroupItem, Block, Condition, Expressions, FurtherExpression, Value, ElseIfPart, ElsePart, ForHead, ForEachHead, Cases, Levels, CatchPart, CatchHead, FurtherClass, CatchVariable, FinallyPart, UnsetList, FurtherArgument, FurtherGlobal, Declared, FurtherDeclared, Constant, FurtherConstant, Directive, Default, ByReference, Parameter, FurtherParameter, Visibility, Variadic, ReturnType, FurtherType, ClassModifier, Extends, InterfaceExtends, Implements, Names, FurtherName, ClassBody, Modifier, ClassConstants, ClassConstant, FurtherClassConstant, Method, Properties, PropertyType, Adaptations, Adaptation, AdaptedTrait, One, May, modifier, Symbol, Mark, Word, Part}
use Rattle.stan_model_statements.specs.Rules.{Rule, namespace_statement, namespace_block, use_declaration, top_statement, namespace_name, tops, use_kind, use_list, use_group, use_item, further_use_item, use_alias, group_items, group_item, further_group_item, group_end, comma_group_end, block_statement, empty_statement, expression_statement, echo_statement, return_statement, if_statement, while_statement, do_statement, for_statement, for_each_statement, switch_statement, break_statement, continue_statement, try_statement, unset_statement, global_statement, static_statement, const_statement, declare_statement, function_statement, class_statement, interface_statement, trait_statement, block, condition, expressions, further_expression, value_part, else_if_part, else_part, for_head, for_each_head, reference_target, value_target, keyed_target, cases, case_part, default_part, levels, catches, only_finally, catch_part, catch_head, further_class, catch_variable, finally_part, unset_list, further_argument, closing, comma_closing, further_global, declared, further_declared, constant, further_constant, directive, default, by_reference, no_parameters, parameters, parameter, further_parameter, visible, variadic, return_type, nullable_type, union_type, further_type, class_modifier, extends, interface_extends, implements, class_names, further_name, class_body, trait_use, constants_member, method_member, modified_member, member_modifier, modified_constants, modified_method, modified_properties, class_constants, class_constant, further_class_constant, method, block_body, no_body, properties, nullable_property_type, static_property_type, union_property_type, no_adaptations, adaptations, adaptation_list, adaptation, adapted_trait, precedence, alias, alias_visibility, visible_alias, plain_alias, symbols, sort_of}
use Rattle.stan_model_statements.specs.Forests.{Forest}
use Rattle.stan_model_statements.specs.Grammar.{Runs, Any}
use Rattle.stan_stmt_rules.specs.Ahead.{expression_kinds, statement_kinds, starts, begins, single, find, Choice, statement_choices, member_choices, modified_choices, property_type_choices, namespace_by, static_by, Next}
use Rattle.stan_stmt_law.proofs.Words.{or_split, truth, clash, same_is, apart, apart_has, subset, subset_has}
use Rattle.stan_stmt_law.proofs.Tables.{other_than, no_start}
use Rattle.stan_stmt_law.proofs.Checks.{leads, or_right}
use Rattle.stan_stmt_law.proofs.Runs.{inv_nil, inv_mark, inv_word, inv_checked, inv_expr, inv_part, first_kind, rule_begins}

abbrev mark_of : List Symbol → TokenKind
mark_of (Mark kind ∷ xs) = kind
mark_of _ = k.End

abbrev marked : List Symbol → Bool
marked (Mark kind ∷ xs) = true
marked _ = false

abbrev tail_of : List Symbol → List Symbol
tail_of [] = []
tail_of (x ∷ xs) = xs

only_kind : (a kind : TokenKind) → has (kind ∷ []) a ≡ true → a ≡ kind
only_kind a kind h = elim (or_split (same_kind a kind) false h) [ inl e ↦ same_is a kind e | inr n ↦ absurd cc ]

-- ---- productions by their first token

-- each of these kinds asks for this production
abbrev Each : List Choice → Rule → List TokenKind → Type 0
Each cs r [] = Unit {0}
Each cs r (x ∷ xs) = (find cs x ≡ Some r) × Each cs r xs

found : (cs : List Choice) (r : Rule) (ks : List TokenKind) (a : TokenKind) → Each cs r ks → has ks a ≡ true → find cs a ≡ Some r
found cs r [] a all h = absurd cc
found cs r (x ∷ xs) a all h = elim (or_split (same_kind a x) (has xs a) h) [
  | inl e ↦ subst (λ z. find cs z ≡ Some r) (sym (same_is a x e)) all.0
  | inr i ↦ found cs r xs a all.1 i
]

ends_found : Each statement_choices empty_statement ends
unfolding same_kind
ends_found = (refl, (refl, tt))

classes_found : Each statement_choices class_statement (k.Class ∷ class_modifiers)
unfolding same_kind
classes_found = (refl, (refl, (refl, tt)))

modifiers_found : Each member_choices modified_member modifiers
unfolding same_kind
modifiers_found = (refl, (refl, (refl, (refl, (refl, (refl, (refl, tt)))))))

properties_found : Each modified_choices modified_properties (k.Question ∷ k.Variable ∷ property_type_names)
unfolding same_kind
properties_found = (refl, (refl, (refl, (refl, (refl, (refl, (refl, (refl, tt))))))))

types_found : Each property_type_choices union_property_type property_type_names
unfolding same_kind
types_found = (refl, (refl, (refl, (refl, (refl, (refl, tt))))))

-- ---- kinds that are apart

record AreApart : Type 0 where
  names_brace : has names k.LeftBrace ≡ false
  ends_brace : has ends k.LeftBrace ≡ false
  statements_namespace : has statement_kinds k.Namespace ≡ false
  statements_use : has statement_kinds k.Use ≡ false
  use_backslash : has (k.As ∷ k.Comma ∷ ends) k.Backslash ≡ false
  expressions_ampersand : has expression_kinds k.Ampersand ≡ false
  parameters_end : has (begins Parameter) k.RightParenthesis ≡ false
  types_question : has type_names k.Question ≡ false
  property_types_static : has (k.Question ∷ k.Variable ∷ property_type_names) k.Static ≡ false
  types_static : has property_type_names k.Static ≡ false
  members_semicolon : has member_names k.Semicolon ≡ false
  aliases : apart alias_names visibilities ≡ true
  classes : apart (k.Class ∷ class_modifiers) expression_kinds ≡ true
  ends_apart : apart ends expression_kinds ≡ true

apart_kinds : AreApart
unfolding same_kind
apart_kinds = record { names_brace = refl; ends_brace = refl; statements_namespace = refl; statements_use = refl; use_backslash = refl; expressions_ampersand = refl; parameters_end = refl; types_question = refl; property_types_static = refl; types_static = refl; members_semicolon = refl; aliases = refl; classes = refl; ends_apart = refl }

-- what is of one of these kinds and not of the first
unless_first : (x : TokenKind) (ks us : List TokenKind) (a : TokenKind) → subset us (x ∷ ks) ≡ true → has us a ≡ true → same_kind a x ≡ false → has ks a ≡ true
unless_first x ks us a s h n = elim (or_split (same_kind a x) (has ks a) (subset_has us (x ∷ ks) a s h)) [ inl y ↦ clash (same_kind a x) y n | inr z ↦ z ]

-- ---- parts that have one production

abbrev alone : Sort → Bool
alone NamespaceName = true
alone Tops = true
alone UseKind = true
alone UseItem = true
alone FurtherUseItem = true
alone UseAlias = true
alone GroupItems = true
alone GroupItem = true
alone FurtherGroupItem = true
alone Block = true
alone Condition = true
alone Expressions = true
alone FurtherExpression = true
alone Value = true
alone ElseIfPart = true
alone ElsePart = true
alone ForHead = true
alone ForEachHead = true
alone Cases = true
alone Levels = true
alone CatchPart = true
alone CatchHead = true
alone FurtherClass = true
alone CatchVariable = true
alone FinallyPart = true
alone UnsetList = true
alone FurtherArgument = true
alone FurtherGlobal = true
alone Declared = true
alone FurtherDeclared = true
alone Constant = true
alone FurtherConstant = true
alone Directive = true
alone Default = true
alone ByReference = true
alone Parameter = true
alone FurtherParameter = true
alone Visibility = true
alone Variadic = true
alone ReturnType = true
alone FurtherType = true
alone ClassModifier = true
alone Extends = true
alone InterfaceExtends = true
alone Implements = true
alone Names = true
alone FurtherName = true
alone ClassBody = true
alone Modifier = true
alone ClassConstants = true
alone ClassConstant = true
alone FurtherClassConstant = true
alone Method = true
alone Properties = true
alone Adaptations = true
alone Adaptation = true
alone AdaptedTrait = true
alone _ = false

only_one : (r : Rule) → alone (sort_of r) ≡ true → r ≡ single (sort_of r)
only_one namespace_name h = refl
only_one tops h = refl
only_one use_kind h = refl
only_one use_item h = refl
only_one further_use_item h = refl
only_one use_alias h = refl
only_one group_items h = refl
only_one group_item h = refl
only_one further_group_item h = refl
only_one block h = refl
only_one condition h = refl
only_one expressions h = refl
only_one further_expression h = refl
only_one value_part h = refl
only_one else_if_part h = refl
only_one else_part h = refl
only_one for_head h = refl
only_one for_each_head h = refl
only_one cases h = refl
only_one levels h = refl
only_one catch_part h = refl
only_one catch_head h = refl
only_one further_class h = refl
only_one catch_variable h = refl
only_one finally_part h = refl
only_one unset_list h = refl
only_one further_argument h = refl
only_one further_global h = refl
only_one declared h = refl
only_one further_declared h = refl
only_one constant h = refl
only_one further_constant h = refl
only_one directive h = refl
only_one default h = refl
only_one by_reference h = refl
only_one parameter h = refl
only_one further_parameter h = refl
only_one visible h = refl
only_one variadic h = refl
only_one return_type h = refl
only_one further_type h = refl
only_one class_modifier h = refl
only_one extends h = refl
only_one interface_extends h = refl
only_one implements h = refl
only_one class_names h = refl
only_one further_name h = refl
only_one class_body h = refl
only_one member_modifier h = refl
only_one class_constants h = refl
only_one class_constant h = refl
only_one further_class_constant h = refl
only_one method h = refl
only_one properties h = refl
only_one adaptation_list h = refl
only_one adaptation h = refl
only_one adapted_trait h = refl
only_one r h = absurd (true≢false (sym h))

is_single : (r : Rule) (s : Sort) → sort_of r ≡ s → alone s ≡ true → r ≡ single s
is_single r s e a = only_one r (subst (λ z. alone z ≡ true) (sym e) a) ∙ ap single e

module _ (ts : List Token) (named : Token → Bool) (X : Bool → Tree → ℕ → ℕ → Type 0) (behind : ℕ → TokenKind)
    (starting : (p : Bool) (e : Tree) (at b : ℕ) → X p e at b → starts (kind_at ts at) (kind_at ts (at + 1)) (kind_at ts (at + 2)) ≡ true)
    (ending : (p : Bool) (e : Tree) (at b : ℕ) → X p e at b → behind at ≡ kind_at ts b)
    (sized : (p : Bool) (e : Tree) (at b : ℕ) → X p e at b → b ≡ at + tree_size e)
    (begun : (p : Bool) (e : Tree) (at b : ℕ) → X p e at b → (at < b) × (has expression_kinds (kind_at ts at) ≡ true)) where
  abbrev L : List Symbol → Forest → ℕ → ℕ → Type 0
  L = Runs ts named X Any

  first_mark : (xs : List Symbol) (f : Forest) (at to : ℕ) → marked xs ≡ true → L xs f at to → kind_at ts at ≡ mark_of xs
  first_mark (Mark kind ∷ xs) f at to m h = (inv_mark ts named X Any kind xs f at to h).2
  first_mark xs f at to m h = absurd (true≢false (sym m))

  -- the kind of a token that the symbols begin with
  first_of : (ks : List TokenKind) (xs : List Symbol) (f : Forest) (at to : ℕ) → leads ks xs ≡ true → L xs f at to → has ks (kind_at ts at) ≡ true
  first_of = first_kind ts named X Any sized begun

  first_is : (kind : TokenKind) (xs : List Symbol) (f : Forest) (at to : ℕ) → leads (kind ∷ []) xs ≡ true → L xs f at to → kind_at ts at ≡ kind
  first_is kind xs f at to l h = only_kind (kind_at ts at) kind (first_of (kind ∷ []) xs f at to l h)

  -- the second token, where the first is one of a list
  second_of : (ks us : List TokenKind) (xs : List Symbol) (f : Forest) (at to : ℕ) → leads us xs ≡ true → L (Word ks ∷ xs) f at to → has us (kind_at ts (at + 1)) ≡ true
  second_of ks us xs f at to l h = let v = inv_word ts named X Any ks xs f at to h in first_of us xs v.1 (at + 1) to l v.5

  second_is : (ks : List TokenKind) (kind : TokenKind) (xs : List Symbol) (f : Forest) (at to : ℕ) → leads (kind ∷ []) xs ≡ true → L (Word ks ∷ xs) f at to → kind_at ts (at + 1) ≡ kind
  second_is ks kind xs f at to l h = only_kind (kind_at ts (at + 1)) kind (second_of ks (kind ∷ []) xs f at to l h)

  behind_mark : (kind : TokenKind) (us : List TokenKind) (xs : List Symbol) (f : Forest) (at to : ℕ) → leads us xs ≡ true → L (Mark kind ∷ xs) f at to → has us (kind_at ts (at + 1)) ≡ true
  behind_mark kind us xs f at to l h = let v = inv_mark ts named X Any kind xs f at to h in first_of us xs v.0 (at + 1) to l v.3

  behind_mark_is : (kind second : TokenKind) (xs : List Symbol) (f : Forest) (at to : ℕ) → leads (second ∷ []) xs ≡ true → L (Mark kind ∷ xs) f at to → kind_at ts (at + 1) ≡ second
  behind_mark_is kind second xs f at to l h = only_kind (kind_at ts (at + 1)) second (behind_mark kind (second ∷ []) xs f at to l h)

  by_kinds : (s : Sort) (a : TokenKind) → has (begins s) a ≡ true → (if has (begins s) a then Some (single s) else None) ≡ Some (single s)
  by_kinds s a h = rw h refl

  word_end : (ks : List TokenKind) (f : Forest) (at to : ℕ) → L (Word ks ∷ []) f at to → to ≡ at + 1
  word_end ks f at to h = let v = inv_word ts named X Any ks [] f at to h in sym (inv_nil ts named X Any v.1 (at + 1) to v.5).1

  -- a part that must stand, by its sort
  part_has : (s : Sort) (xs : List Symbol) (f : Forest) (at to : ℕ) → L (Part One s ∷ xs) f at to → (r : Rule) × (ps g : Forest) × (b : ℕ) × (sort_of r ≡ s) × L (symbols r) ps at b × L xs g b to
  part_has s xs f at to h = elim (inv_part ts named X Any One s xs f at to h) [
    | inl v ↦ absurd (true≢false (sym v.2))
    | inr v ↦ (v.0, v.1, v.2, v.3, v.5, v.7, v.8)
  ]

  single_has : (s : Sort) (xs : List Symbol) (f : Forest) (at to : ℕ) → alone s ≡ true → L (Part One s ∷ xs) f at to → (ps g : Forest) × (b : ℕ) × L (symbols (single s)) ps at b × L xs g b to
  single_has s xs f at to a h = let v = part_has s xs f at to h in (v.1, v.2, v.3, subst (λ r. L (symbols r) v.1 at v.3) (is_single v.0 s v.4 a) v.5, v.6)

  -- ---- where the second token decides

  plus_two : (at : ℕ) → at + 1 + 1 ≡ at + 2
  plus_two at = omega arith

  namespace_block_there : (f : Forest) (at to : ℕ) → L (symbols namespace_block) f at to → namespace_by (kind_at ts (at + 1)) (kind_at ts (at + 2)) ≡ namespace_block
  unfolding same_kind
  namespace_block_there f at to h =
      let v = inv_mark ts named X Any k.Namespace (tail_of (symbols namespace_block)) f at to h in
      elim (inv_part ts named X Any May NamespaceName (Part One Tops ∷ []) v.0 (at + 1) to v.3) [
        | inl w ↦ rw (first_is k.LeftBrace (Part One Tops ∷ []) w.0 (at + 1) to refl w.4) refl
        | inr w ↦
            let own = subst (λ r. L (symbols r) w.1 (at + 1) w.3) (is_single w.0 NamespaceName w.5 refl) w.7 in
            let place : w.3 ≡ at + 2 = word_end names w.1 (at + 1) w.3 own ∙ plus_two at in
            let third : kind_at ts (at + 2) ≡ k.LeftBrace = subst (λ z. kind_at ts z ≡ k.LeftBrace) place (first_is k.LeftBrace (Part One Tops ∷ []) w.2 w.3 to refl w.8) in
            let second = other_than names (kind_at ts (at + 1)) k.LeftBrace (first_of names (symbols namespace_name) w.1 (at + 1) w.3 refl own) apart_kinds.names_brace in
            rw (second, third) refl
      ]

  use_list_there : (f : Forest) (at to : ℕ) → L (symbols use_list) f at to → has (k.As ∷ k.Comma ∷ ends) (kind_at ts (at + 1)) ≡ true
  unfolding same_kind
  use_list_there f at to h =
      let v = single_has UseItem (tail_of (symbols use_list)) f at to refl h in
      let w = inv_word ts named X Any names (tail_of (symbols use_item)) v.0 at v.2 v.3 in
      elim (inv_part ts named X Any May UseAlias [] w.1 (at + 1) v.2 w.5) [
        | inl z ↦
            let place : at + 1 ≡ v.2 = (inv_nil ts named X Any z.0 (at + 1) v.2 z.4).1 in
            or_right (same_kind (kind_at ts (at + 1)) k.As) (has (k.Comma ∷ ends) (kind_at ts (at + 1))) (subst (λ x. has (k.Comma ∷ ends) (kind_at ts x) ≡ true) (sym place) (first_of (k.Comma ∷ ends) (tail_of (symbols use_list)) v.1 v.2 to refl v.4))
        | inr z ↦
            let own = subst (λ r. L (symbols r) z.1 (at + 1) z.3) (is_single z.0 UseAlias z.5 refl) z.7 in
            subst (λ x. has (k.As ∷ k.Comma ∷ ends) x ≡ true) (sym (first_is k.As (symbols use_alias) z.1 (at + 1) z.3 refl own)) refl
      ]

  function_there : (f : Forest) (at to : ℕ) → L (symbols function_statement) f at to
      → (same_kind (kind_at ts (at + 1)) k.LeftParenthesis || (same_kind (kind_at ts (at + 1)) k.Ampersand && same_kind (kind_at ts (at + 2)) k.LeftParenthesis)) ≡ false
  unfolding same_kind
  function_there f at to h =
      let v = inv_mark ts named X Any k.Function (tail_of (symbols function_statement)) f at to h in
      elim (inv_part ts named X Any May ByReference (tail_of (tail_of (symbols function_statement))) v.0 (at + 1) to v.3) [
        | inl w ↦ rw (first_is k.Identifier (tail_of (tail_of (symbols function_statement))) w.0 (at + 1) to refl w.4) refl
        | inr w ↦
            let own = subst (λ r. L (symbols r) w.1 (at + 1) w.3) (is_single w.0 ByReference w.5 refl) w.7 in
            let m = inv_mark ts named X Any k.Ampersand [] w.1 (at + 1) w.3 own in
            let place : w.3 ≡ at + 2 = sym (inv_nil ts named X Any m.0 (at + 1 + 1) w.3 m.3).1 ∙ plus_two at in
            let third : kind_at ts (at + 2) ≡ k.Identifier = subst (λ z. kind_at ts z ≡ k.Identifier) place (first_is k.Identifier (tail_of (tail_of (symbols function_statement))) w.2 w.3 to refl w.8) in
            rw (m.2, third) refl
      ]

  property_type_there : (r : Rule) (f : Forest) (at to : ℕ) → sort_of r ≡ PropertyType → L (symbols r) f at to
      → static_by (kind_at ts at) (kind_at ts (at + 1)) static_property_type property_type_choices ≡ Some r
  unfolding same_kind
  property_type_there nullable_property_type f at to e h = rw (first_is k.Question (symbols nullable_property_type) f at to refl h) refl
  property_type_there static_property_type f at to e h = rw (first_is k.Static (symbols static_property_type) f at to refl h, second_is statics k.Bar (tail_of (symbols static_property_type)) f at to refl h) refl
  property_type_there union_property_type f at to e h =
      let a = first_of property_type_names (symbols union_property_type) f at to refl h in
      rw (other_than property_type_names (kind_at ts at) k.Static a apart_kinds.types_static) (found property_type_choices union_property_type property_type_names (kind_at ts at) types_found a)
  property_type_there r f at to e h = absurd cc

  static_bar : (a b : TokenKind) (q r : Rule) (cs : List Choice) → same_kind a k.Static ≡ true → static_by a b q cs ≡ Some r → same_kind b k.Bar ≡ true
  static_bar a b q r cs e h = elim (truth (same_kind b k.Bar)) [ inl y ↦ y | inr n ↦ absurd (let w : (if true then (if false then Some q else None) else find cs a) ≡ Some r = subst (λ z. (if true then (if z then Some q else None) else find cs a) ≡ Some r) n (subst (λ z. (if z then (if same_kind b k.Bar then Some q else None) else find cs a) ≡ Some r) e h) in cc) ]

  properties_there : (f : Forest) (at to : ℕ) → L (symbols properties) f at to → same_kind (kind_at ts at) k.Static ≡ true → same_kind (kind_at ts (at + 1)) k.Bar ≡ true
  unfolding same_kind
  properties_there f at to h e = elim (inv_part ts named X Any May PropertyType (tail_of (symbols properties)) f at to h) [
    | inl w ↦
        let first : kind_at ts at ≡ k.Variable = first_is k.Variable (tail_of (symbols properties)) w.0 at to refl w.4 in
        absurd (true≢false (sym e ∙ subst (λ z. same_kind z k.Static ≡ false) (sym first) refl))
    | inr w ↦ static_bar (kind_at ts at) (kind_at ts (at + 1)) static_property_type w.0 property_type_choices e (property_type_there w.0 w.1 at w.3 w.5 w.7)
  ]

  modified_there : (f : Forest) (at to : ℕ) → L (symbols modified_properties) f at to → static_by (kind_at ts at) (kind_at ts (at + 1)) modified_properties modified_choices ≡ Some modified_properties
  unfolding same_kind
  modified_there f at to h =
      let v = single_has Properties [] f at to refl h in
      elim (truth (same_kind (kind_at ts at) k.Static)) [
        | inl y ↦ rw (y, properties_there v.0 at v.2 v.3 y) refl
        | inr n ↦
            let a = first_of (begins Properties) (symbols properties) v.0 at v.2 refl v.3 in
            rw n (found modified_choices modified_properties (k.Question ∷ k.Variable ∷ property_type_names) (kind_at ts at) properties_found
            (unless_first k.Static (k.Question ∷ k.Variable ∷ property_type_names) (begins Properties) (kind_at ts at) refl a n))
      ]

  -- ---- each production

  pub decided : (r : Rule) (f : Forest) (at to : ℕ) → L (symbols r) f at to → Next ts behind (sort_of r) at (Some r)
  unfolding same_kind
  decided namespace_statement f at to h =
      let v = inv_mark ts named X Any k.Namespace (tail_of (symbols namespace_statement)) f at to h in
      let second = other_than names (kind_at ts (at + 1)) k.LeftBrace (first_of names (tail_of (symbols namespace_statement)) v.0 (at + 1) to refl v.3) apart_kinds.names_brace in
      let third = other_than ends (kind_at ts (at + 2)) k.LeftBrace (subst (λ z. has ends (kind_at ts z) ≡ true) (plus_two at) (second_of names ends (tail_of (tail_of (symbols namespace_statement))) v.0 (at + 1) to refl v.3)) apart_kinds.ends_brace in
      rw (v.2, second, third) refl
  decided namespace_block f at to h = rw (first_mark (symbols namespace_block) f at to refl h) (ap Some (namespace_block_there f at to h))
  decided top_statement f at to h =
      let a = first_of statement_kinds (symbols top_statement) f at to refl h in
      rw (other_than statement_kinds (kind_at ts at) k.Namespace a apart_kinds.statements_namespace, other_than statement_kinds (kind_at ts at) k.Use a apart_kinds.statements_use, a) refl
  decided use_list f at to h =
      rw (rule_begins ts named X Any sized begun use_list f at to h, other_than (k.As ∷ k.Comma ∷ ends) (kind_at ts (at + 1)) k.Backslash (use_list_there f at to h) apart_kinds.use_backslash) refl
  decided use_group f at to h = rw (rule_begins ts named X Any sized begun use_group f at to h, second_is names k.Backslash (tail_of (symbols use_group)) f at to refl h) refl
  decided comma_group_end f at to h = rw (first_mark (symbols comma_group_end) f at to refl h, behind_mark_is k.Comma k.RightBrace (tail_of (symbols comma_group_end)) f at to refl h) refl
  decided value_target f at to h =
      let v = inv_expr ts named X Any true (tail_of (symbols value_target)) f at to h in
      let a = (begun true v.0 at v.3 v.4).1 in
      rw (other_than expression_kinds (kind_at ts at) k.Ampersand a apart_kinds.expressions_ampersand, a, ending true v.0 at v.3 v.4 ∙ first_is k.RightParenthesis (tail_of (symbols value_target)) v.1 v.3 to refl v.5) refl
  decided keyed_target f at to h =
      let v = inv_expr ts named X Any false (tail_of (symbols keyed_target)) f at to h in
      let a = (begun false v.0 at v.3 v.4).1 in
      rw (other_than expression_kinds (kind_at ts at) k.Ampersand a apart_kinds.expressions_ampersand, a, ending false v.0 at v.3 v.4 ∙ first_is k.DoubleArrow (tail_of (symbols keyed_target)) v.1 v.3 to refl v.5) refl
  decided block_statement f at to h = rw (first_is k.LeftBrace (symbols block_statement) f at to refl h) refl
  decided empty_statement f at to h =
      let a = first_of ends (symbols empty_statement) f at to refl h in
      rw (no_start (kind_at ts at) (kind_at ts (at + 1)) (kind_at ts (at + 2)) (apart_has ends expression_kinds (kind_at ts at) apart_kinds.ends_apart a)) (found statement_choices empty_statement ends (kind_at ts at) ends_found a)
  decided expression_statement f at to h = let v = inv_expr ts named X Any false (tail_of (symbols expression_statement)) f at to h in rw (starting false v.0 at v.3 v.4) refl
  decided static_statement f at to h = rw (first_mark (symbols static_statement) f at to refl h, behind_mark_is k.Static k.Variable (tail_of (symbols static_statement)) f at to refl h) refl
  decided function_statement f at to h = rw (first_mark (symbols function_statement) f at to refl h, function_there f at to h) refl
  decided class_statement f at to h =
      let a = first_of (k.Class ∷ class_modifiers) (symbols class_statement) f at to refl h in
      rw (no_start (kind_at ts at) (kind_at ts (at + 1)) (kind_at ts (at + 2)) (apart_has (k.Class ∷ class_modifiers) expression_kinds (kind_at ts at) apart_kinds.classes a)) (found statement_choices class_statement (k.Class ∷ class_modifiers) (kind_at ts at) classes_found a)
  decided catches f at to h = rw (first_is k.Catch (symbols catches) f at to refl h) refl
  decided only_finally f at to h = rw (first_is k.Finally (symbols only_finally) f at to refl h) refl
  decided comma_closing f at to h = rw (first_mark (symbols comma_closing) f at to refl h, behind_mark_is k.Comma k.RightParenthesis (tail_of (symbols comma_closing)) f at to refl h) refl
  decided no_parameters f at to h = rw (first_mark (symbols no_parameters) f at to refl h, behind_mark_is k.LeftParenthesis k.RightParenthesis (tail_of (symbols no_parameters)) f at to refl h) refl
  decided parameters f at to h =
      let b = behind_mark k.LeftParenthesis (begins Parameter) (tail_of (symbols parameters)) f at to refl h in
      rw (first_mark (symbols parameters) f at to refl h, other_than (begins Parameter) (kind_at ts (at + 1)) k.RightParenthesis b apart_kinds.parameters_end) refl
  decided further_parameter f at to h = rw (first_mark (symbols further_parameter) f at to refl h, behind_mark k.Comma (begins Parameter) (tail_of (symbols further_parameter)) f at to refl h) refl
  decided further_argument f at to h = rw (first_mark (symbols further_argument) f at to refl h, behind_mark k.Comma expression_kinds (tail_of (symbols further_argument)) f at to refl h) refl
  decided further_group_item f at to h = rw (first_mark (symbols further_group_item) f at to refl h, behind_mark k.Comma (begins GroupItem) (tail_of (symbols further_group_item)) f at to refl h) refl
  decided nullable_type f at to h = rw (first_is k.Question (symbols nullable_type) f at to refl h) refl
  decided union_type f at to h = let a = first_of type_names (symbols union_type) f at to refl h in rw (other_than type_names (kind_at ts at) k.Question a apart_kinds.types_question, a) refl
  decided constants_member f at to h = rw (first_is k.Const (symbols constants_member) f at to refl h) refl
  decided method_member f at to h = rw (first_is k.Function (symbols method_member) f at to refl h) refl
  decided modified_member f at to h = found member_choices modified_member modifiers (kind_at ts at) modifiers_found (first_of modifiers (symbols modified_member) f at to refl h)
  decided member_modifier f at to h = let v = inv_checked ts named X Any modifier [] f at to h in rw (first_of modifiers (symbols member_modifier) f at to refl h, v.5) refl
  decided modified_constants f at to h = rw (first_is k.Const (symbols modified_constants) f at to refl h) refl
  decided modified_method f at to h = rw (first_is k.Function (symbols modified_method) f at to refl h) refl
  decided modified_properties f at to h = modified_there f at to h
  decided block_body f at to h = rw (first_is k.LeftBrace (symbols block_body) f at to refl h) refl
  decided nullable_property_type f at to h = property_type_there nullable_property_type f at to refl h
  decided static_property_type f at to h = property_type_there static_property_type f at to refl h
  decided union_property_type f at to h = property_type_there union_property_type f at to refl h
  decided adaptations f at to h = rw (first_is k.LeftBrace (symbols adaptations) f at to refl h) refl
  decided adapted_trait f at to h = rw (first_of names (symbols adapted_trait) f at to refl h, second_is names k.DoubleColon (tail_of (symbols adapted_trait)) f at to refl h) refl
  decided precedence f at to h = rw (first_of member_names (symbols precedence) f at to refl h, second_is member_names k.InsteadOf (tail_of (symbols precedence)) f at to refl h) refl
  decided alias f at to h = rw (first_of member_names (symbols alias) f at to refl h, second_is member_names k.As (tail_of (symbols alias)) f at to refl h) refl
  decided alias_visibility f at to h = rw (first_of visibilities (symbols alias_visibility) f at to refl h, second_is visibilities k.Semicolon (tail_of (symbols alias_visibility)) f at to refl h) refl
  decided visible_alias f at to h =
      rw (first_of visibilities (symbols visible_alias) f at to refl h, other_than member_names (kind_at ts (at + 1)) k.Semicolon (second_of visibilities member_names (tail_of (symbols visible_alias)) f at to refl h) apart_kinds.members_semicolon) refl
  decided plain_alias f at to h = let a = first_of alias_names (symbols plain_alias) f at to refl h in rw (apart_has alias_names visibilities (kind_at ts at) apart_kinds.aliases a, a) refl
  decided use_declaration f at to h = rw (first_mark (symbols use_declaration) f at to refl h) refl
  decided group_end f at to h = rw (first_mark (symbols group_end) f at to refl h) refl
  decided echo_statement f at to h = rw (first_mark (symbols echo_statement) f at to refl h) refl
  decided return_statement f at to h = rw (first_mark (symbols return_statement) f at to refl h) refl
  decided if_statement f at to h = rw (first_mark (symbols if_statement) f at to refl h) refl
  decided while_statement f at to h = rw (first_mark (symbols while_statement) f at to refl h) refl
  decided do_statement f at to h = rw (first_mark (symbols do_statement) f at to refl h) refl
  decided for_statement f at to h = rw (first_mark (symbols for_statement) f at to refl h) refl
  decided for_each_statement f at to h = rw (first_mark (symbols for_each_statement) f at to refl h) refl
  decided switch_statement f at to h = rw (first_mark (symbols switch_statement) f at to refl h) refl
  decided break_statement f at to h = rw (first_mark (symbols break_statement) f at to refl h) refl
  decided continue_statement f at to h = rw (first_mark (symbols continue_statement) f at to refl h) refl
  decided try_statement f at to h = rw (first_mark (symbols try_statement) f at to refl h) refl
  decided unset_statement f at to h = rw (first_mark (symbols unset_statement) f at to refl h) refl
  decided global_statement f at to h = rw (first_mark (symbols global_statement) f at to refl h) refl
  decided const_statement f at to h = rw (first_mark (symbols const_statement) f at to refl h) refl
  decided declare_statement f at to h = rw (first_mark (symbols declare_statement) f at to refl h) refl
  decided interface_statement f at to h = rw (first_mark (symbols interface_statement) f at to refl h) refl
  decided trait_statement f at to h = rw (first_mark (symbols trait_statement) f at to refl h) refl
  decided reference_target f at to h = rw (first_mark (symbols reference_target) f at to refl h) refl
  decided case_part f at to h = rw (first_mark (symbols case_part) f at to refl h) refl
  decided default_part f at to h = rw (first_mark (symbols default_part) f at to refl h) refl
  decided closing f at to h = rw (first_mark (symbols closing) f at to refl h) refl
  decided trait_use f at to h = rw (first_mark (symbols trait_use) f at to refl h) refl
  decided no_body f at to h = rw (first_mark (symbols no_body) f at to refl h) refl
  decided no_adaptations f at to h = rw (first_mark (symbols no_adaptations) f at to refl h) refl
  decided r f at to h = by_kinds (sort_of r) (kind_at ts at) (rule_begins ts named X Any sized begun r f at to h)
