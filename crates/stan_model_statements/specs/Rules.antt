-- The grammar of files, above expressions: its productions, one line each (PHP manual, "Language Reference").
use Rattle.std.specs.Prelude.{ℕ, true, false, List, [], ◌∷◌}
use Rattle.stan_model_grammar.specs.declared.token.TokenKind.TheVariants as k
use Rattle.stan_model_statements.specs.Kinds.{names, identifiers, variables, integers, questions, statics, ends, case_ends, use_kinds, visibilities, class_modifiers, property_type_names, type_names, member_names, alias_names}
use Rattle.stan_model_statements.specs.Symbols.{Sort, Top, NamespaceName, Tops, UseKind, UseRest, UseItem, FurtherUseItem, UseAlias, GroupItems, GroupItem, FurtherGroupItem, GroupEnd, Statement, Block, Condition, Expressions, FurtherExpression, Value, ElseIfPart, ElsePart, ForHead, ForEachHead, ForEachTarget, Cases, Case, Levels, Handlers, CatchPart, CatchHead, FurtherClass, CatchVariable, FinallyPart, UnsetList, FurtherArgument, Closing, FurtherGlobal, Declared, FurtherDeclared, Constant, FurtherConstant, Directive, Default, ByReference, ParameterList, Parameter, FurtherParameter, Visibility, Variadic, ReturnType, WrittenType, FurtherType, ClassModifier, Extends, InterfaceExtends, Implements, Names, FurtherName, ClassBody, Member, Modifier, Modified, ClassConstants, ClassConstant, FurtherClassConstant, Method, MethodBody, Properties, PropertyType, TraitUseEnd, Adaptations, Adaptation, AdaptedTrait, AdaptationRest, Alias, One, May, Many, strict_types, modifier, Symbol, Mark, Word, Checked, Expression, Part}

pub data Rule : Type 0 where
  -- tops
  namespace_statement : Rule
  namespace_block : Rule
  use_declaration : Rule
  top_statement : Rule
  namespace_name : Rule
  tops : Rule
  use_kind : Rule
  use_list : Rule
  use_group : Rule
  use_item : Rule
  further_use_item : Rule
  use_alias : Rule
  group_items : Rule
  group_item : Rule
  further_group_item : Rule
  group_end : Rule
  comma_group_end : Rule
  -- statements
  block_statement : Rule
  empty_statement : Rule
  expression_statement : Rule
  echo_statement : Rule
  return_statement : Rule
  if_statement : Rule
  while_statement : Rule
  do_statement : Rule
  for_statement : Rule
  for_each_statement : Rule
  switch_statement : Rule
  break_statement : Rule
  continue_statement : Rule
  try_statement : Rule
  unset_statement : Rule
  global_statement : Rule
  static_statement : Rule
  const_statement : Rule
  declare_statement : Rule
  function_statement : Rule
  class_statement : Rule
  interface_statement : Rule
  trait_statement : Rule
  -- parts of statements
  block : Rule
  condition : Rule
  expressions : Rule
  further_expression : Rule
  value_part : Rule
  else_if_part : Rule
  else_part : Rule
  for_head : Rule
  for_each_head : Rule
  reference_target : Rule
  value_target : Rule
  keyed_target : Rule
  cases : Rule
  case_part : Rule
  default_part : Rule
  levels : Rule
  catches : Rule
  only_finally : Rule
  catch_part : Rule
  catch_head : Rule
  further_class : Rule
  catch_variable : Rule
  finally_part : Rule
  unset_list : Rule
  further_argument : Rule
  closing : Rule
  comma_closing : Rule
  further_global : Rule
  declared : Rule
  further_declared : Rule
  constant : Rule
  further_constant : Rule
  directive : Rule
  default : Rule
  -- functions
  by_reference : Rule
  no_parameters : Rule
  parameters : Rule
  parameter : Rule
  further_parameter : Rule
  visible : Rule
  variadic : Rule
  return_type : Rule
  nullable_type : Rule
  union_type : Rule
  further_type : Rule
  -- classes
  class_modifier : Rule
  extends : Rule
  interface_extends : Rule
  implements : Rule
  class_names : Rule
  further_name : Rule
  class_body : Rule
  trait_use : Rule
  constants_member : Rule
  method_member : Rule
  modified_member : Rule
  member_modifier : Rule
  modified_constants : Rule
  modified_method : Rule
  modified_properties : Rule
  class_constants : Rule
  class_constant : Rule
  further_class_constant : Rule
  method : Rule
  block_body : Rule
  no_body : Rule
  properties : Rule
  nullable_property_type : Rule
  static_property_type : Rule
  union_property_type : Rule
  no_adaptations : Rule
  adaptations : Rule
  adaptation_list : Rule
  adaptation : Rule
  adapted_trait : Rule
  precedence : Rule
  alias : Rule
  alias_visibility : Rule
  visible_alias : Rule
  plain_alias : Rule

-- which part a production may stand for
abbrev pub sort_of : Rule → Sort
sort_of namespace_statement = Top
sort_of namespace_block = Top
sort_of use_declaration = Top
sort_of top_statement = Top
sort_of namespace_name = NamespaceName
sort_of tops = Tops
sort_of use_kind = UseKind
sort_of use_list = UseRest
sort_of use_group = UseRest
sort_of use_item = UseItem
sort_of further_use_item = FurtherUseItem
sort_of use_alias = UseAlias
sort_of group_items = GroupItems
sort_of group_item = GroupItem
sort_of further_group_item = FurtherGroupItem
sort_of group_end = GroupEnd
sort_of comma_group_end = GroupEnd
sort_of block_statement = Statement
sort_of empty_statement = Statement
sort_of expression_statement = Statement
sort_of echo_statement = Statement
sort_of return_statement = Statement
sort_of if_statement = Statement
sort_of while_statement = Statement
sort_of do_statement = Statement
sort_of for_statement = Statement
sort_of for_each_statement = Statement
sort_of switch_statement = Statement
sort_of break_statement = Statement
sort_of continue_statement = Statement
sort_of try_statement = Statement
sort_of unset_statement = Statement
sort_of global_statement = Statement
sort_of static_statement = Statement
sort_of const_statement = Statement
sort_of declare_statement = Statement
sort_of function_statement = Statement
sort_of class_statement = Statement
sort_of interface_statement = Statement
sort_of trait_statement = Statement
sort_of block = Block
sort_of condition = Condition
sort_of expressions = Expressions
sort_of further_expression = FurtherExpression
sort_of value_part = Value
sort_of else_if_part = ElseIfPart
sort_of else_part = ElsePart
sort_of for_head = ForHead
sort_of for_each_head = ForEachHead
sort_of reference_target = ForEachTarget
sort_of value_target = ForEachTarget
sort_of keyed_target = ForEachTarget
sort_of cases = Cases
sort_of case_part = Case
sort_of default_part = Case
sort_of levels = Levels
sort_of catches = Handlers
sort_of only_finally = Handlers
sort_of catch_part = CatchPart
sort_of catch_head = CatchHead
sort_of further_class = FurtherClass
sort_of catch_variable = CatchVariable
sort_of finally_part = FinallyPart
sort_of unset_list = UnsetList
sort_of further_argument = FurtherArgument
sort_of closing = Closing
sort_of comma_closing = Closing
sort_of further_global = FurtherGlobal
sort_of declared = Declared
sort_of further_declared = FurtherDeclared
sort_of constant = Constant
sort_of further_constant = FurtherConstant
sort_of directive = Directive
sort_of default = Default
sort_of by_reference = ByReference
sort_of no_parameters = ParameterList
sort_of parameters = ParameterList
sort_of parameter = Parameter
sort_of further_parameter = FurtherParameter
sort_of visible = Visibility
sort_of variadic = Variadic
sort_of return_type = ReturnType
sort_of nullable_type = WrittenType
sort_of union_type = WrittenType
sort_of further_type = FurtherType
sort_of class_modifier = ClassModifier
sort_of extends = Extends
sort_of interface_extends = InterfaceExtends
sort_of implements = Implements
sort_of class_names = Names
sort_of further_name = FurtherName
sort_of class_body = ClassBody
sort_of trait_use = Member
sort_of constants_member = Member
sort_of method_member = Member
sort_of modified_member = Member
sort_of member_modifier = Modifier
sort_of modified_constants = Modified
sort_of modified_method = Modified
sort_of modified_properties = Modified
sort_of class_constants = ClassConstants
sort_of class_constant = ClassConstant
sort_of further_class_constant = FurtherClassConstant
sort_of method = Method
sort_of block_body = MethodBody
sort_of no_body = MethodBody
sort_of properties = Properties
sort_of nullable_property_type = PropertyType
sort_of static_property_type = PropertyType
sort_of union_property_type = PropertyType
sort_of no_adaptations = TraitUseEnd
sort_of adaptations = TraitUseEnd
sort_of adaptation_list = Adaptations
sort_of adaptation = Adaptation
sort_of adapted_trait = AdaptedTrait
sort_of precedence = AdaptationRest
sort_of alias = AdaptationRest
sort_of alias_visibility = Alias
sort_of visible_alias = Alias
sort_of plain_alias = Alias

abbrev pub value : Symbol
value = Expression false

-- what a value is put into, which may be a pattern
abbrev pub target : Symbol
target = Expression true

-- the grammar
abbrev pub symbols : Rule → List Symbol
symbols namespace_statement = Mark k.Namespace ∷ Word names ∷ Word ends ∷ []
symbols namespace_block = Mark k.Namespace ∷ Part May NamespaceName ∷ Part One Tops ∷ []
symbols use_declaration = Mark k.Use ∷ Part May UseKind ∷ Part One UseRest ∷ []
symbols top_statement = Part One Statement ∷ []
symbols namespace_name = Word names ∷ []
symbols tops = Mark k.LeftBrace ∷ Part Many Top ∷ Mark k.RightBrace ∷ []
symbols use_kind = Word use_kinds ∷ []
symbols use_list = Part One UseItem ∷ Part Many FurtherUseItem ∷ Word ends ∷ []
symbols use_group = Word names ∷ Mark k.Backslash ∷ Part One GroupItems ∷ Word ends ∷ []
symbols use_item = Word names ∷ Part May UseAlias ∷ []
symbols further_use_item = Mark k.Comma ∷ Part One UseItem ∷ []
symbols use_alias = Mark k.As ∷ Word identifiers ∷ []
symbols group_items = Mark k.LeftBrace ∷ Part One GroupItem ∷ Part Many FurtherGroupItem ∷ Part One GroupEnd ∷ []
symbols group_item = Part May UseKind ∷ Part One UseItem ∷ []
symbols further_group_item = Mark k.Comma ∷ Part One GroupItem ∷ []
symbols group_end = Mark k.RightBrace ∷ []
symbols comma_group_end = Mark k.Comma ∷ Mark k.RightBrace ∷ []
symbols block_statement = Part One Block ∷ []
symbols empty_statement = Word ends ∷ []
symbols expression_statement = value ∷ Word ends ∷ []
symbols echo_statement = Mark k.Echo ∷ Part One Expressions ∷ Word ends ∷ []
symbols return_statement = Mark k.Return ∷ Part May Value ∷ Word ends ∷ []
symbols if_statement = Mark k.If ∷ Part One Condition ∷ Part One Statement ∷ Part Many ElseIfPart ∷ Part May ElsePart ∷ []
symbols while_statement = Mark k.While ∷ Part One Condition ∷ Part One Statement ∷ []
symbols do_statement = Mark k.Do ∷ Part One Statement ∷ Mark k.While ∷ Part One Condition ∷ Word ends ∷ []
symbols for_statement = Mark k.For ∷ Part One ForHead ∷ Part One Statement ∷ []
symbols for_each_statement = Mark k.ForEach ∷ Part One ForEachHead ∷ Part One Statement ∷ []
symbols switch_statement = Mark k.Switch ∷ Part One Condition ∷ Part One Cases ∷ []
symbols break_statement = Mark k.Break ∷ Part May Levels ∷ Word ends ∷ []
symbols continue_statement = Mark k.Continue ∷ Part May Levels ∷ Word ends ∷ []
symbols try_statement = Mark k.Try ∷ Part One Block ∷ Part One Handlers ∷ []
symbols unset_statement = Mark k.Unset ∷ Part One UnsetList ∷ Word ends ∷ []
symbols global_statement = Mark k.Global ∷ Word variables ∷ Part Many FurtherGlobal ∷ Word ends ∷ []
symbols static_statement = Mark k.Static ∷ Part One Declared ∷ Part Many FurtherDeclared ∷ Word ends ∷ []
symbols const_statement = Mark k.Const ∷ Part One Constant ∷ Part Many FurtherConstant ∷ Word ends ∷ []
symbols declare_statement = Mark k.Declare ∷ Part One Directive ∷ Word ends ∷ []
symbols function_statement = Mark k.Function ∷ Part May ByReference ∷ Word identifiers ∷ Part One ParameterList ∷ Part May ReturnType ∷ Part One Block ∷ []
symbols class_statement = Part Many ClassModifier ∷ Mark k.Class ∷ Word identifiers ∷ Part May Extends ∷ Part May Implements ∷ Part One ClassBody ∷ []
symbols interface_statement = Mark k.Interface ∷ Word identifiers ∷ Part May InterfaceExtends ∷ Part One ClassBody ∷ []
symbols trait_statement = Mark k.Trait ∷ Word identifiers ∷ Part One ClassBody ∷ []
symbols block = Mark k.LeftBrace ∷ Part Many Statement ∷ Mark k.RightBrace ∷ []
symbols condition = Mark k.LeftParenthesis ∷ value ∷ Mark k.RightParenthesis ∷ []
symbols expressions = value ∷ Part Many FurtherExpression ∷ []
symbols further_expression = Mark k.Comma ∷ value ∷ []
symbols value_part = value ∷ []
symbols else_if_part = Mark k.ElseIf ∷ Part One Condition ∷ Part One Statement ∷ []
symbols else_part = Mark k.Else ∷ Part One Statement ∷ []
symbols for_head = Mark k.LeftParenthesis ∷ Part May Expressions ∷ Mark k.Semicolon ∷ Part May Expressions ∷ Mark k.Semicolon ∷ Part May Expressions ∷ Mark k.RightParenthesis ∷ []
symbols for_each_head = Mark k.LeftParenthesis ∷ value ∷ Mark k.As ∷ Part One ForEachTarget ∷ []
symbols reference_target = Mark k.Ampersand ∷ target ∷ Mark k.RightParenthesis ∷ []
symbols value_target = target ∷ Mark k.RightParenthesis ∷ []
symbols keyed_target = value ∷ Mark k.DoubleArrow ∷ Part May ByReference ∷ target ∷ Mark k.RightParenthesis ∷ []
symbols cases = Mark k.LeftBrace ∷ Part Many Case ∷ Mark k.RightBrace ∷ []
symbols case_part = Mark k.Case ∷ value ∷ Word case_ends ∷ Part Many Statement ∷ []
symbols default_part = Mark k.Default ∷ Word case_ends ∷ Part Many Statement ∷ []
symbols levels = Word integers ∷ []
symbols catches = Part One CatchPart ∷ Part Many CatchPart ∷ Part May FinallyPart ∷ []
symbols only_finally = Part One FinallyPart ∷ []
symbols catch_part = Mark k.Catch ∷ Part One CatchHead ∷ Part One Block ∷ []
symbols catch_head = Mark k.LeftParenthesis ∷ Word names ∷ Part Many FurtherClass ∷ Part May CatchVariable ∷ Mark k.RightParenthesis ∷ []
symbols further_class = Mark k.Bar ∷ Word names ∷ []
symbols catch_variable = Word variables ∷ []
symbols finally_part = Mark k.Finally ∷ Part One Block ∷ []
symbols unset_list = Mark k.LeftParenthesis ∷ value ∷ Part Many FurtherArgument ∷ Part One Closing ∷ []
symbols further_argument = Mark k.Comma ∷ value ∷ []
symbols closing = Mark k.RightParenthesis ∷ []
symbols comma_closing = Mark k.Comma ∷ Mark k.RightParenthesis ∷ []
symbols further_global = Mark k.Comma ∷ Word variables ∷ []
symbols declared = Word variables ∷ Part May Default ∷ []
symbols further_declared = Mark k.Comma ∷ Part One Declared ∷ []
symbols constant = Word identifiers ∷ Mark k.Assign ∷ value ∷ []
symbols further_constant = Mark k.Comma ∷ Part One Constant ∷ []
symbols directive = Mark k.LeftParenthesis ∷ Checked strict_types ∷ Mark k.Assign ∷ Word integers ∷ Mark k.RightParenthesis ∷ []
symbols default = Mark k.Assign ∷ value ∷ []
symbols by_reference = Mark k.Ampersand ∷ []
symbols no_parameters = Mark k.LeftParenthesis ∷ Mark k.RightParenthesis ∷ []
symbols parameters = Mark k.LeftParenthesis ∷ Part One Parameter ∷ Part Many FurtherParameter ∷ Part One Closing ∷ []
symbols parameter = Part May Visibility ∷ Part May WrittenType ∷ Part May ByReference ∷ Part May Variadic ∷ Word variables ∷ Part May Default ∷ []
symbols further_parameter = Mark k.Comma ∷ Part One Parameter ∷ []
symbols visible = Word visibilities ∷ []
symbols variadic = Mark k.Ellipsis ∷ []
symbols return_type = Mark k.Colon ∷ Part One WrittenType ∷ []
symbols nullable_type = Word questions ∷ Word type_names ∷ []
symbols union_type = Word type_names ∷ Part Many FurtherType ∷ []
symbols further_type = Mark k.Bar ∷ Word type_names ∷ []
symbols class_modifier = Word class_modifiers ∷ []
symbols extends = Mark k.Extends ∷ Word names ∷ []
symbols interface_extends = Mark k.Extends ∷ Part One Names ∷ []
symbols implements = Mark k.Implements ∷ Part One Names ∷ []
symbols class_names = Word names ∷ Part Many FurtherName ∷ []
symbols further_name = Mark k.Comma ∷ Word names ∷ []
symbols class_body = Mark k.LeftBrace ∷ Part Many Member ∷ Mark k.RightBrace ∷ []
symbols trait_use = Mark k.Use ∷ Part One Names ∷ Part One TraitUseEnd ∷ []
symbols constants_member = Part One ClassConstants ∷ []
symbols method_member = Part One Method ∷ []
symbols modified_member = Part One Modifier ∷ Part Many Modifier ∷ Part One Modified ∷ []
symbols member_modifier = Checked modifier ∷ []
symbols modified_constants = Part One ClassConstants ∷ []
symbols modified_method = Part One Method ∷ []
symbols modified_properties = Part One Properties ∷ []
symbols class_constants = Mark k.Const ∷ Part One ClassConstant ∷ Part Many FurtherClassConstant ∷ Mark k.Semicolon ∷ []
symbols class_constant = Word member_names ∷ Mark k.Assign ∷ value ∷ []
symbols further_class_constant = Mark k.Comma ∷ Part One ClassConstant ∷ []
symbols method = Mark k.Function ∷ Part May ByReference ∷ Word member_names ∷ Part One ParameterList ∷ Part May ReturnType ∷ Part One MethodBody ∷ []
symbols block_body = Part One Block ∷ []
symbols no_body = Mark k.Semicolon ∷ []
symbols properties = Part May PropertyType ∷ Part One Declared ∷ Part Many FurtherDeclared ∷ Mark k.Semicolon ∷ []
symbols nullable_property_type = Word questions ∷ Word type_names ∷ []
symbols static_property_type = Word statics ∷ Mark k.Bar ∷ Word type_names ∷ Part Many FurtherType ∷ []
symbols union_property_type = Word property_type_names ∷ Part Many FurtherType ∷ []
symbols no_adaptations = Mark k.Semicolon ∷ []
symbols adaptations = Part One Adaptations ∷ []
symbols adaptation_list = Mark k.LeftBrace ∷ Part Many Adaptation ∷ Mark k.RightBrace ∷ []
symbols adaptation = Part May AdaptedTrait ∷ Part One AdaptationRest ∷ []
symbols adapted_trait = Word names ∷ Mark k.DoubleColon ∷ []
symbols precedence = Word member_names ∷ Mark k.InsteadOf ∷ Part One Names ∷ Mark k.Semicolon ∷ []
symbols alias = Word member_names ∷ Mark k.As ∷ Part One Alias ∷ []
symbols alias_visibility = Word visibilities ∷ Mark k.Semicolon ∷ []
symbols visible_alias = Word visibilities ∷ Word member_names ∷ Mark k.Semicolon ∷ []
symbols plain_alias = Word alias_names ∷ Mark k.Semicolon ∷ []

-- the levels that a production opens: brackets, and statements that hold others
abbrev pub weight : Rule → ℕ
weight tops = 1
weight group_items = 1
weight if_statement = 1
weight while_statement = 1
weight do_statement = 1
weight for_statement = 1
weight for_each_statement = 1
weight switch_statement = 1
weight try_statement = 1
weight block = 1
weight condition = 1
weight for_head = 1
weight for_each_head = 1
weight cases = 1
weight catch_head = 1
weight unset_list = 1
weight directive = 1
weight no_parameters = 1
weight parameters = 1
weight class_body = 1
weight adaptation_list = 1
weight _ = 0
