-- What is read at a place, by the kinds of the next three tokens and of the one behind an expression.
use Rattle.std.specs.Prelude.{◌≡◌, ℕ, ◌+◌, ◌&&◌, ◌||◌, not, if◌then◌else◌, Bool, true, false, List, [], ◌∷◌, ◌++◌, Option, Some, None}
use Rattle.stan_model_grammar.specs.declared.token.Token.{Token}
use Rattle.stan_model_grammar.specs.declared.token.TokenKind.{TokenKind}
use Rattle.stan_model_grammar.specs.declared.token.TokenKind.TheVariants as k
use Rattle.stan_model_grammar.specs.Strata.{kind_at}
use Rattle.stan_model_statements.specs.Kinds.{same_kind, has, alias_names, class_modifiers, identifiers, integers, member_names, modifiers, names, type_names, use_kinds, variables, visibilities}
use Rattle.stan_model_statements.specs.Symbols.{Sort, Top, NamespaceName, Tops, UseKind, UseRest, UseItem, FurtherUseItem, UseAlias, GroupItems, GroupItem, FurtherGroupItem, GroupEnd, Statement, Block, Condition, Expressions, FurtherExpression, Value, ElseIfPart, ElsePart, ForHead, ForEachHead, ForEachTarget, Cases, Case, Levels, Handlers, CatchPart, CatchHead, FurtherClass, CatchVariable, FinallyPart, UnsetList, FurtherArgument, Closing, FurtherGlobal, Declared, FurtherDeclared, Constant, FurtherConstant, Directive, Default, ByReference, ParameterList, Parameter, FurtherParameter, Visibility, Variadic, ReturnType, WrittenType, FurtherType, ClassModifier, Extends, InterfaceExtends, Implements, Names, FurtherName, ClassBody, Member, Modifier, Modified, ClassConstants, ClassConstant, FurtherClassConstant, Method, MethodBody, Properties, PropertyType, TraitUseEnd, Adaptations, Adaptation, AdaptedTrait, AdaptationRest, Alias}
use Rattle.stan_model_statements.specs.Rules.{Rule, namespace_statement, namespace_block, use_declaration, top_statement, namespace_name, tops, use_kind, use_list, use_group, use_item, further_use_item, use_alias, group_items, group_item, further_group_item, group_end, comma_group_end, block_statement, empty_statement, expression_statement, echo_statement, return_statement, if_statement, while_statement, do_statement, for_statement, for_each_statement, switch_statement, break_statement, continue_statement, try_statement, unset_statement, global_statement, static_statement, const_statement, declare_statement, function_statement, class_statement, interface_statement, trait_statement, block, condition, expressions, further_expression, value_part, else_if_part, else_part, for_head, for_each_head, reference_target, value_target, keyed_target, cases, case_part, default_part, levels, catches, only_finally, catch_part, catch_head, further_class, catch_variable, finally_part, unset_list, further_argument, closing, comma_closing, further_global, declared, further_declared, constant, further_constant, directive, default, by_reference, no_parameters, parameters, parameter, further_parameter, visible, variadic, return_type, nullable_type, union_type, further_type, class_modifier, extends, interface_extends, implements, class_names, further_name, class_body, trait_use, constants_member, method_member, modified_member, member_modifier, modified_constants, modified_method, modified_properties, class_constants, class_constant, further_class_constant, method, block_body, no_body, properties, nullable_property_type, static_property_type, union_property_type, no_adaptations, adaptations, adaptation_list, adaptation, adapted_trait, precedence, alias, alias_visibility, visible_alias, plain_alias}

-- ---- the first tokens of a part

-- what can begin an expression, whatever stands behind it
abbrev pub other_kinds : List TokenKind
other_kinds = k.Variable ∷ k.Integer ∷ k.Float ∷ k.SingleQuoted ∷ k.DoubleQuoted ∷ k.Heredoc ∷ k.Nowdoc ∷ k.TextStart ∷ k.Identifier ∷ k.QualifiedName ∷ k.FullyQualifiedName ∷ k.RelativeName ∷ k.LeftParenthesis ∷ k.LeftBracket ∷ k.Array ∷ k.List ∷ k.IsSet ∷ k.Empty ∷ k.Exit ∷ k.Die ∷ k.New ∷ k.Match ∷ k.Fn ∷ k.Clone ∷ k.Increment ∷ k.Decrement ∷ k.Plus ∷ k.Minus ∷ k.Tilde ∷ k.AtSign ∷ k.IntCast ∷ k.BoolCast ∷ k.FloatCast ∷ k.StringCast ∷ k.ArrayCast ∷ k.ObjectCast ∷ k.Exclamation ∷ k.Print ∷ k.Include ∷ k.IncludeOnce ∷ k.Require ∷ k.RequireOnce ∷ k.Throw ∷ []

-- what can begin an expression
abbrev pub expression_kinds : List TokenKind
expression_kinds = k.Static ∷ k.Function ∷ other_kinds

-- ---- productions by their first token

abbrev pub Choice : Type 0
Choice = TokenKind × Rule

abbrev pub find : List Choice → TokenKind → Option Rule
find [] a = None
find (x ∷ xs) a = if same_kind a x.0 then Some x.1 else find xs a

abbrev pub firsts : List Choice → List TokenKind
firsts [] = []
firsts (x ∷ xs) = x.0 ∷ firsts xs

abbrev pub statement_choices : List Choice
statement_choices = (k.LeftBrace, block_statement) ∷ (k.Semicolon, empty_statement) ∷ (k.ClosingTag, empty_statement) ∷ (k.Echo, echo_statement) ∷ (k.Return, return_statement) ∷ (k.If, if_statement) ∷ (k.While, while_statement) ∷ (k.Do, do_statement) ∷ (k.For, for_statement) ∷ (k.ForEach, for_each_statement) ∷ (k.Switch, switch_statement) ∷ (k.Break, break_statement) ∷ (k.Continue, continue_statement) ∷ (k.Try, try_statement) ∷ (k.Unset, unset_statement) ∷ (k.Global, global_statement) ∷ (k.Static, static_statement) ∷ (k.Const, const_statement) ∷ (k.Declare, declare_statement) ∷ (k.Function, function_statement) ∷ (k.Interface, interface_statement) ∷ (k.Trait, trait_statement) ∷ (k.Abstract, class_statement) ∷ (k.Final, class_statement) ∷ (k.Class, class_statement) ∷ []

abbrev pub target_choices : List Choice
target_choices = (k.DoubleArrow, keyed_target) ∷ (k.RightParenthesis, value_target) ∷ []

abbrev pub case_choices : List Choice
case_choices = (k.Case, case_part) ∷ (k.Default, default_part) ∷ []

abbrev pub handler_choices : List Choice
handler_choices = (k.Catch, catches) ∷ (k.Finally, only_finally) ∷ []

abbrev pub member_choices : List Choice
member_choices = (k.Use, trait_use) ∷ (k.Const, constants_member) ∷ (k.Function, method_member) ∷ (k.Public, modified_member) ∷ (k.Protected, modified_member) ∷ (k.Private, modified_member) ∷ (k.Static, modified_member) ∷ (k.Abstract, modified_member) ∷ (k.Final, modified_member) ∷ (k.Var, modified_member) ∷ []

abbrev pub modified_choices : List Choice
modified_choices = (k.Const, modified_constants) ∷ (k.Function, modified_method) ∷ (k.Question, modified_properties) ∷ (k.Variable, modified_properties) ∷ (k.Identifier, modified_properties) ∷ (k.QualifiedName, modified_properties) ∷ (k.FullyQualifiedName, modified_properties) ∷ (k.RelativeName, modified_properties) ∷ (k.Array, modified_properties) ∷ (k.Callable, modified_properties) ∷ []

abbrev pub body_choices : List Choice
body_choices = (k.LeftBrace, block_body) ∷ (k.Semicolon, no_body) ∷ []

abbrev pub property_type_choices : List Choice
property_type_choices = (k.Question, nullable_property_type) ∷ (k.Identifier, union_property_type) ∷ (k.QualifiedName, union_property_type) ∷ (k.FullyQualifiedName, union_property_type) ∷ (k.RelativeName, union_property_type) ∷ (k.Array, union_property_type) ∷ (k.Callable, union_property_type) ∷ []

abbrev pub trait_use_choices : List Choice
trait_use_choices = (k.Semicolon, no_adaptations) ∷ (k.LeftBrace, adaptations) ∷ []

abbrev pub adaptation_choices : List Choice
adaptation_choices = (k.InsteadOf, precedence) ∷ (k.As, alias) ∷ []

-- what can begin a statement
abbrev pub statement_kinds : List TokenKind
statement_kinds = firsts statement_choices ++ expression_kinds

-- the first kinds of an expression
abbrev pub starts : TokenKind → TokenKind → TokenKind → Bool
starts a b c = has other_kinds a || ((same_kind a k.Static && not (same_kind b k.Variable)) || (same_kind a k.Function && (same_kind b k.LeftParenthesis || (same_kind b k.Ampersand && same_kind c k.LeftParenthesis))))

abbrev pub begins : Sort → List TokenKind
begins Top = k.Namespace ∷ k.Use ∷ statement_kinds
begins NamespaceName = names
begins Tops = k.LeftBrace ∷ []
begins UseKind = use_kinds
begins UseRest = names
begins UseItem = names
begins FurtherUseItem = k.Comma ∷ []
begins UseAlias = k.As ∷ []
begins GroupItems = k.LeftBrace ∷ []
begins GroupItem = k.Function ∷ k.Const ∷ names
begins FurtherGroupItem = k.Comma ∷ []
begins GroupEnd = k.RightBrace ∷ k.Comma ∷ []
begins Statement = statement_kinds
begins Block = k.LeftBrace ∷ []
begins Condition = k.LeftParenthesis ∷ []
begins Expressions = expression_kinds
begins FurtherExpression = k.Comma ∷ []
begins Value = expression_kinds
begins ElseIfPart = k.ElseIf ∷ []
begins ElsePart = k.Else ∷ []
begins ForHead = k.LeftParenthesis ∷ []
begins ForEachHead = k.LeftParenthesis ∷ []
begins ForEachTarget = k.Ampersand ∷ expression_kinds
begins Cases = k.LeftBrace ∷ []
begins Case = firsts case_choices
begins Levels = integers
begins Handlers = firsts handler_choices
begins CatchPart = k.Catch ∷ []
begins CatchHead = k.LeftParenthesis ∷ []
begins FurtherClass = k.Bar ∷ []
begins CatchVariable = variables
begins FinallyPart = k.Finally ∷ []
begins UnsetList = k.LeftParenthesis ∷ []
begins FurtherArgument = k.Comma ∷ []
begins Closing = k.RightParenthesis ∷ k.Comma ∷ []
begins FurtherGlobal = k.Comma ∷ []
begins Declared = variables
begins FurtherDeclared = k.Comma ∷ []
begins Constant = identifiers
begins FurtherConstant = k.Comma ∷ []
begins Directive = k.LeftParenthesis ∷ []
begins Default = k.Assign ∷ []
begins ByReference = k.Ampersand ∷ []
begins ParameterList = k.LeftParenthesis ∷ []
begins Parameter = k.Public ∷ k.Protected ∷ k.Private ∷ k.Question ∷ k.Ampersand ∷ k.Ellipsis ∷ k.Variable ∷ type_names
begins FurtherParameter = k.Comma ∷ []
begins Visibility = visibilities
begins Variadic = k.Ellipsis ∷ []
begins ReturnType = k.Colon ∷ []
begins WrittenType = k.Question ∷ type_names
begins FurtherType = k.Bar ∷ []
begins ClassModifier = class_modifiers
begins Extends = k.Extends ∷ []
begins InterfaceExtends = k.Extends ∷ []
begins Implements = k.Implements ∷ []
begins Names = names
begins FurtherName = k.Comma ∷ []
begins ClassBody = k.LeftBrace ∷ []
begins Member = firsts member_choices
begins Modifier = modifiers
begins Modified = k.Static ∷ firsts modified_choices
begins ClassConstants = k.Const ∷ []
begins ClassConstant = member_names
begins FurtherClassConstant = k.Comma ∷ []
begins Method = k.Function ∷ []
begins MethodBody = firsts body_choices
begins Properties = k.Question ∷ k.Variable ∷ type_names
begins PropertyType = k.Static ∷ firsts property_type_choices
begins TraitUseEnd = firsts trait_use_choices
begins Adaptations = k.LeftBrace ∷ []
begins Adaptation = k.QualifiedName ∷ k.FullyQualifiedName ∷ k.RelativeName ∷ member_names
begins AdaptedTrait = names
begins AdaptationRest = member_names
begins Alias = member_names

-- the production of a part that has one
abbrev pub single : Sort → Rule
single Top = namespace_statement
single NamespaceName = namespace_name
single Tops = tops
single UseKind = use_kind
single UseRest = use_list
single UseItem = use_item
single FurtherUseItem = further_use_item
single UseAlias = use_alias
single GroupItems = group_items
single GroupItem = group_item
single FurtherGroupItem = further_group_item
single GroupEnd = group_end
single Statement = empty_statement
single Block = block
single Condition = condition
single Expressions = expressions
single FurtherExpression = further_expression
single Value = value_part
single ElseIfPart = else_if_part
single ElsePart = else_part
single ForHead = for_head
single ForEachHead = for_each_head
single ForEachTarget = reference_target
single Cases = cases
single Case = case_part
single Levels = levels
single Handlers = catches
single CatchPart = catch_part
single CatchHead = catch_head
single FurtherClass = further_class
single CatchVariable = catch_variable
single FinallyPart = finally_part
single UnsetList = unset_list
single FurtherArgument = further_argument
single Closing = closing
single FurtherGlobal = further_global
single Declared = declared
single FurtherDeclared = further_declared
single Constant = constant
single FurtherConstant = further_constant
single Directive = directive
single Default = default
single ByReference = by_reference
single ParameterList = no_parameters
single Parameter = parameter
single FurtherParameter = further_parameter
single Visibility = visible
single Variadic = variadic
single ReturnType = return_type
single WrittenType = nullable_type
single FurtherType = further_type
single ClassModifier = class_modifier
single Extends = extends
single InterfaceExtends = interface_extends
single Implements = implements
single Names = class_names
single FurtherName = further_name
single ClassBody = class_body
single Member = trait_use
single Modifier = member_modifier
single Modified = modified_constants
single ClassConstants = class_constants
single ClassConstant = class_constant
single FurtherClassConstant = further_class_constant
single Method = method
single MethodBody = block_body
single Properties = properties
single PropertyType = nullable_property_type
single TraitUseEnd = no_adaptations
single Adaptations = adaptation_list
single Adaptation = adaptation
single AdaptedTrait = adapted_trait
single AdaptationRest = precedence
single Alias = alias_visibility

-- ---- parts that have several productions

abbrev pub namespace_by : TokenKind → TokenKind → Rule
namespace_by b c = if same_kind b k.LeftBrace || same_kind c k.LeftBrace then namespace_block else namespace_statement

abbrev pub top_by : TokenKind → TokenKind → TokenKind → Option Rule
top_by a b c = if same_kind a k.Namespace then Some (namespace_by b c) else (if same_kind a k.Use then Some use_declaration else (if has statement_kinds a then Some top_statement else None))

abbrev pub closing_by : TokenKind → TokenKind → Rule → Rule → TokenKind → Option Rule
closing_by a b plain comma closes = if same_kind a closes then Some plain else (if same_kind a k.Comma && same_kind b closes then Some comma else None)

-- a further item behind a comma
abbrev pub further_by : TokenKind → TokenKind → List TokenKind → Rule → Option Rule
further_by a b ks r = if same_kind a k.Comma && has ks b then Some r else None

-- behind `static` stands a `|`, where it is a type
abbrev pub static_by : TokenKind → TokenKind → Rule → List Choice → Option Rule
static_by a b r others = if same_kind a k.Static then (if same_kind b k.Bar then Some r else None) else find others a

abbrev pub alias_by : TokenKind → TokenKind → Option Rule
alias_by a b =
    if has visibilities a then (if same_kind b k.Semicolon then Some alias_visibility else Some visible_alias) else (if has alias_names a then Some plain_alias else None)

-- The production that is read there, if one begins there: by three tokens, and the one behind the expression that begins there.
abbrev pub pick : Sort → TokenKind → TokenKind → TokenKind → TokenKind → Option Rule
pick Top a b c d = top_by a b c
pick UseRest a b c d = if has names a then (if same_kind b k.Backslash then Some use_group else Some use_list) else None
pick FurtherGroupItem a b c d = further_by a b (begins GroupItem) further_group_item
pick GroupEnd a b c d = closing_by a b group_end comma_group_end k.RightBrace
pick Statement a b c d = if starts a b c then Some expression_statement else find statement_choices a
pick ForEachTarget a b c d = if same_kind a k.Ampersand then Some reference_target else (if has expression_kinds a then find target_choices d else None)
pick Case a b c d = find case_choices a
pick Handlers a b c d = find handler_choices a
pick FurtherArgument a b c d = further_by a b expression_kinds further_argument
pick Closing a b c d = closing_by a b closing comma_closing k.RightParenthesis
pick ParameterList a b c d = if same_kind a k.LeftParenthesis then (if same_kind b k.RightParenthesis then Some no_parameters else Some parameters) else None
pick FurtherParameter a b c d = further_by a b (begins Parameter) further_parameter
pick WrittenType a b c d = if same_kind a k.Question then Some nullable_type else (if has type_names a then Some union_type else None)
pick Member a b c d = find member_choices a
pick Modifier a b c d = if has modifiers a && not (same_kind b k.Bar) then Some member_modifier else None
pick Modified a b c d = static_by a b modified_properties modified_choices
pick MethodBody a b c d = find body_choices a
pick PropertyType a b c d = static_by a b static_property_type property_type_choices
pick TraitUseEnd a b c d = find trait_use_choices a
pick AdaptedTrait a b c d = if has names a && same_kind b k.DoubleColon then Some adapted_trait else None
pick AdaptationRest a b c d = if has member_names a then find adaptation_choices b else None
pick Alias a b c d = alias_by a b
pick s a b c d = if has (begins s) a then Some (single s) else None

-- The production that is read at a place, as a part of this sort. `behind` tells the token behind the expression that begins at a place.
unfoldable pub pick_at : List Token → (ℕ → TokenKind) → Sort → ℕ → Option Rule
pick_at ts behind s at = pick s (kind_at ts at) (kind_at ts (at + 1)) (kind_at ts (at + 2)) (behind at)

-- the production that the next tokens ask for
abbrev pub Next : List Token → (ℕ → TokenKind) → Sort → ℕ → Option Rule → Type 0
Next ts behind s at r = pick s (kind_at ts at) (kind_at ts (at + 1)) (kind_at ts (at + 2)) (behind at) ≡ r

-- ---- parts that may belong to several statements, each to the nearest

-- the part that a token goes on with
abbrev pub owner : TokenKind → Option Rule
owner k.Else = Some else_part
owner k.ElseIf = Some else_if_part
owner k.Catch = Some catch_part
owner k.Finally = Some finally_part
owner _ = None

abbrev pub dangles : Sort → Bool
dangles ElseIfPart = true
dangles ElsePart = true
dangles CatchPart = true
dangles FinallyPart = true
dangles _ = false

-- what may begin with such a token, and no part that may lack does
abbrev pub leads_on : Sort → Bool
leads_on Handlers = true
leads_on _ = false
