-- How deep statements, declarations and files are, with what the bodies of closures hold: brackets, blocks and statements that hold others
-- are each 1 deeper than their deepest part.
use Rattle.std.specs.Prelude.{ℕ, ◌+◌, max, List, Option, Some, None}
use Rattle.stan_model_grammar.specs.Depth.{depth as tree_depth}
use Rattle.stan_model_statements.specs.Trees.{Adaptation, Value, value, Bodies, no_body, body, MayValue, no_value, some_value, Values, no_more_value, more_value, Statement, node, Form, Block, Empty, Expression, Echo, Return, If, While, Do, For, ForEach, Switch, Break, Continue, Try, Unset, Global, Static, Const, Declare, Function, Class, Interface, Trait, Statements, no_statement, statement, MayStatement, no_else, else, MayBlock, no_block, block, ElseIfs, no_else_if, else_if, Cases, no_case, case, Catches, no_catch, catch, Variables, no_variable, variable, Constants, no_constant, constant, Parameters, no_parameter, parameter, Members, no_member, member, Member, TraitUse, ClassConstants, Method, Properties, Top, Namespace, NamespaceBlock, Use, UseGroup, Plain, Tops, no_top, top, File}

-- the braces around adaptations
abbrev pub adaptations_depth : Option (List Adaptation) → ℕ
adaptations_depth None = 0
adaptations_depth (Some xs) = 1

abbrev mutual
  pub value_depth : Value → ℕ
  value_depth (value e bs) = max (tree_depth e) (bodies_depth bs)

  -- with the levels around each in its expression, which are counted up to 201
  pub bodies_depth : Bodies → ℕ
  bodies_depth no_body = 0
  bodies_depth (body held ss bs) = max (held.levels + (statements_depth ss + 1)) (bodies_depth bs)

  pub may_value_depth : MayValue → ℕ
  may_value_depth no_value = 0
  may_value_depth (some_value v) = value_depth v

  pub values_depth : Values → ℕ
  values_depth no_more_value = 0
  values_depth (more_value v vs) = max (value_depth v) (values_depth vs)

  pub depth : Statement → ℕ
  depth (node t f) = form_depth f

  pub form_depth : Form → ℕ
  form_depth (Block ss) = statements_depth ss + 1
  form_depth (Empty end) = 0
  form_depth (Expression v end) = value_depth v
  form_depth (Echo vs end) = values_depth vs
  form_depth (Return v end) = may_value_depth v
  form_depth (If v s es o) = max (value_depth v + 1) (max (depth s) (max (else_ifs_depth es) (else_depth o))) + 1
  form_depth (While v s) = max (value_depth v + 1) (depth s) + 1
  form_depth (Do s v end) = max (depth s) (value_depth v + 1) + 1
  form_depth (For vs us ws s) = max (max (values_depth vs) (max (values_depth us) (values_depth ws)) + 1) (depth s) + 1
  form_depth (ForEach v key reference element s) = max (max (value_depth v) (max (may_value_depth key) (value_depth element)) + 1) (depth s) + 1
  form_depth (Switch v cs) = max (value_depth v + 1) (cases_depth cs + 1) + 1
  form_depth (Break levels end) = 0
  form_depth (Continue levels end) = 0
  form_depth (Try ss cs b) = max (statements_depth ss + 1) (max (catches_depth cs) (may_block_depth b)) + 1
  form_depth (Unset vs comma end) = values_depth vs + 1
  form_depth (Global names end) = 0
  form_depth (Static vs end) = variables_depth vs
  form_depth (Const cs end) = constants_depth cs
  form_depth (Declare name number end) = 1
  form_depth (Function reference name ps comma type ss) = max (parameters_depth ps + 1) (statements_depth ss + 1)
  form_depth (Class modifiers name parent interfaces ms) = members_depth ms + 1
  form_depth (Interface name parents ms) = members_depth ms + 1
  form_depth (Trait name ms) = members_depth ms + 1

  pub statements_depth : Statements → ℕ
  statements_depth no_statement = 0
  statements_depth (statement s ss) = max (depth s) (statements_depth ss)

  pub else_depth : MayStatement → ℕ
  else_depth no_else = 0
  else_depth (else s) = depth s

  pub may_block_depth : MayBlock → ℕ
  may_block_depth no_block = 0
  may_block_depth (block ss) = statements_depth ss + 1

  pub else_ifs_depth : ElseIfs → ℕ
  else_ifs_depth no_else_if = 0
  else_ifs_depth (else_if t v s es) = max (max (value_depth v + 1) (depth s)) (else_ifs_depth es)

  pub cases_depth : Cases → ℕ
  cases_depth no_case = 0
  cases_depth (case t v mark ss cs) = max (max (may_value_depth v) (statements_depth ss)) (cases_depth cs)

  -- The brackets before the block are no deeper than it.
  pub catches_depth : Catches → ℕ
  catches_depth no_catch = 0
  catches_depth (catch t classes name ss cs) = max (statements_depth ss + 1) (catches_depth cs)

  pub variables_depth : Variables → ℕ
  variables_depth no_variable = 0
  variables_depth (variable t v vs) = max (may_value_depth v) (variables_depth vs)

  pub constants_depth : Constants → ℕ
  constants_depth no_constant = 0
  constants_depth (constant t v cs) = max (value_depth v) (constants_depth cs)

  pub parameters_depth : Parameters → ℕ
  parameters_depth no_parameter = 0
  parameters_depth (parameter t visibility type reference variadic name v ps) = max (may_value_depth v) (parameters_depth ps)

  pub members_depth : Members → ℕ
  members_depth no_member = 0
  members_depth (member t m ms) = max (member_depth m) (members_depth ms)

  pub member_depth : Member → ℕ
  member_depth (TraitUse names xs) = adaptations_depth xs
  member_depth (ClassConstants modifiers cs) = constants_depth cs
  member_depth (Method modifiers reference name ps comma type b) = max (parameters_depth ps + 1) (may_block_depth b)
  member_depth (Properties modifiers type vs) = variables_depth vs

abbrev mutual
  pub top_depth : Top → ℕ
  top_depth (Namespace t name end) = 0
  top_depth (NamespaceBlock t name ts) = tops_depth ts + 1
  top_depth (Use t kind items end) = 0
  top_depth (UseGroup t kind name items comma end) = 1
  top_depth (Plain s) = depth s

  pub tops_depth : Tops → ℕ
  tops_depth no_top = 0
  tops_depth (top x xs) = max (top_depth x) (tops_depth xs)

abbrev pub file_depth : File → ℕ
file_depth file = tops_depth file.tops
