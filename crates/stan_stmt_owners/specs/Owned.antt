-- What documentation comments can belong to, read off the trees: first tokens of statements, cases, members and declarations, from left to right.
use Rattle.std.specs.Prelude.{List, [], ◌∷◌, ◌++◌}
use Rattle.stan_model_grammar.specs.declared.token.Token.{Token}
use Rattle.stan_model_statements.specs.Trees.{Value, value, Bodies, no_body, body, MayValue, no_value, some_value, Values, no_more_value, more_value, Statement, node, Form, Block, Empty, Expression, Echo, Return, If, While, Do, For, ForEach, Switch, Break, Continue, Try, Unset, Global, Static, Const, Declare, Function, Class, Interface, Trait, Statements, no_statement, statement, MayStatement, no_else, else, MayBlock, no_block, block, ElseIfs, no_else_if, else_if, Cases, no_case, case, Catches, no_catch, catch, Variables, no_variable, variable, Constants, no_constant, constant, Parameters, no_parameter, parameter, Members, no_member, member, Member, TraitUse, ClassConstants, Method, Properties, Top, Namespace, NamespaceBlock, Use, UseGroup, Plain, Tops, no_top, top}
use Rattle.stan_model_statements.specs.TreeLists as lists

abbrev mutual
  pub value_owned : Value → List Token
  value_owned (value e bs) = bodies_owned bs

  pub bodies_owned : Bodies → List Token
  bodies_owned no_body = []
  bodies_owned (body held ss bs) = statements_owned ss ++ bodies_owned bs

  pub may_value_owned : MayValue → List Token
  may_value_owned no_value = []
  may_value_owned (some_value v) = value_owned v

  pub values_owned : Values → List Token
  values_owned no_more_value = []
  values_owned (more_value v vs) = value_owned v ++ values_owned vs

  pub statement_owned : Statement → List Token
  statement_owned (node t f) = t ∷ form_owned f

  pub form_owned : Form → List Token
  form_owned (Block ss) = statements_owned ss
  form_owned (Empty end) = []
  form_owned (Expression v end) = value_owned v
  form_owned (Echo vs end) = values_owned vs
  form_owned (Return v end) = may_value_owned v
  form_owned (If v s es o) = value_owned v ++ statement_owned s ++ else_ifs_owned es ++ else_owned o
  form_owned (While v s) = value_owned v ++ statement_owned s
  form_owned (Do s v end) = statement_owned s ++ value_owned v
  form_owned (For vs us ws s) = values_owned vs ++ values_owned us ++ values_owned ws ++ statement_owned s
  form_owned (ForEach v key reference element s) = value_owned v ++ may_value_owned key ++ value_owned element ++ statement_owned s
  form_owned (Switch v cs) = value_owned v ++ cases_owned cs
  form_owned (Break levels end) = []
  form_owned (Continue levels end) = []
  form_owned (Try ss cs b) = statements_owned ss ++ catches_owned cs ++ may_block_owned b
  form_owned (Unset vs comma end) = values_owned vs
  form_owned (Global ts end) = []
  form_owned (Static vs end) = variables_owned vs
  form_owned (Const cs end) = constants_owned cs
  form_owned (Declare name number end) = []
  form_owned (Function reference name ps comma type ss) = parameters_owned ps ++ statements_owned ss
  form_owned (Class modifiers name parent interfaces ms) = members_owned ms
  form_owned (Interface name parents ms) = members_owned ms
  form_owned (Trait name ms) = members_owned ms

  pub statements_owned : Statements → List Token
  statements_owned no_statement = []
  statements_owned (statement s ss) = statement_owned s ++ statements_owned ss

  pub else_owned : MayStatement → List Token
  else_owned no_else = []
  else_owned (else s) = statement_owned s

  pub may_block_owned : MayBlock → List Token
  may_block_owned no_block = []
  may_block_owned (block ss) = statements_owned ss

  pub else_ifs_owned : ElseIfs → List Token
  else_ifs_owned no_else_if = []
  else_ifs_owned (else_if t v s es) = (value_owned v ++ statement_owned s) ++ else_ifs_owned es

  pub cases_owned : Cases → List Token
  cases_owned no_case = []
  cases_owned (case t v m ss cs) = (t ∷ may_value_owned v ++ statements_owned ss) ++ cases_owned cs

  pub catches_owned : Catches → List Token
  catches_owned no_catch = []
  catches_owned (catch t ts name ss cs) = statements_owned ss ++ catches_owned cs

  pub variables_owned : Variables → List Token
  variables_owned no_variable = []
  variables_owned (variable t v vs) = may_value_owned v ++ variables_owned vs

  pub constants_owned : Constants → List Token
  constants_owned no_constant = []
  constants_owned (constant t v cs) = value_owned v ++ constants_owned cs

  pub parameters_owned : Parameters → List Token
  parameters_owned no_parameter = []
  parameters_owned (parameter t visibility type reference variadic name v ps) = may_value_owned v ++ parameters_owned ps

  pub members_owned : Members → List Token
  members_owned no_member = []
  members_owned (member t m ms) = (t ∷ member_owned m) ++ members_owned ms

  pub member_owned : Member → List Token
  member_owned (TraitUse names end) = []
  member_owned (ClassConstants modifiers cs) = constants_owned cs
  member_owned (Method modifiers reference name ps comma type b) = parameters_owned ps ++ may_block_owned b
  member_owned (Properties modifiers type vs) = variables_owned vs

abbrev mutual
  pub top_owned : Top → List Token
  top_owned (Namespace t name end) = t ∷ []
  top_owned (NamespaceBlock t name xs) = t ∷ tops_owned xs
  top_owned (Use t kind xs end) = t ∷ []
  top_owned (UseGroup t kind name xs comma end) = t ∷ []
  top_owned (Plain s) = statement_owned s

  pub tops_owned : Tops → List Token
  tops_owned no_top = []
  tops_owned (top x xs) = top_owned x ++ tops_owned xs

-- ---- of one part of a list

abbrev pub case_owned : lists.Case → List Token
case_owned x = x.first ∷ may_value_owned x.value ++ statements_owned x.statements

abbrev pub else_if_owned : lists.ElseIf → List Token
else_if_owned x = value_owned x.condition ++ statement_owned x.then

abbrev pub class_member_owned : lists.ClassMember → List Token
class_member_owned x = x.first ∷ member_owned x.form
