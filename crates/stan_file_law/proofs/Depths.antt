-- How deep a tree of statements is, is how deep its productions are.
use Rattle.std.proofs.Common.{◌≡◌, ◌+◌, max, Bool, true, false, List, [], ◌∷◌, Option, Some, None, refl, ◌∙◌, arith}
use Rattle.stan_model_grammar.specs.declared.token.Token.{Token}
use Rattle.stan_model_grammar.specs.declared.token.TokenKind.TheVariants as k
use Rattle.stan_model_grammar.specs.Trees.{TypeTree, Nullable, Union}
use Rattle.stan_model_statements.specs.Kinds.{same_kind}
use Rattle.stan_model_statements.specs.Rules as r
use Rattle.stan_model_statements.specs.Rules.{weight}
use Rattle.stan_model_statements.specs.Depth as model
use Rattle.stan_model_statements.specs.Trees.{Adapting, InsteadOf, Alias, Adaptation, Value, value, Bodies, no_body, body, MayValue, no_value, some_value, Values, no_more_value, more_value, Statement, node, Form, Block, Empty, Expression, Echo, Return, If, While, Do, For, ForEach, Switch, Break, Continue, Try, Unset, Global, Static, Const, Declare, Function, Class, Interface, Trait, Statements, no_statement, statement, MayStatement, no_else, else, MayBlock, no_block, block, ElseIfs, no_else_if, else_if, Cases, no_case, case, Catches, no_catch, catch, Variables, no_variable, variable, Constants, no_constant, constant, Parameters, no_parameter, parameter, Members, no_member, member, Member, TraitUse, ClassConstants, Method, Properties, Used, Top, Namespace, NamespaceBlock, Use, UseGroup, Plain, Tops, no_top, top}
use Rattle.stan_model_files.specs.Shapes.{Shape, nil, mark, word, none, some, depth, bodies_depth}
use Rattle.stan_model_files.specs.Put as p

-- ---- what is put without an expression has no depth, where its productions have none

module _ where
  light_flag : (r : r.Rule) (b : Bool) (f : Shape) → weight r ≡ 0 → depth (p.flag r b f) ≡ depth f
  light_flag r true f w = omega (arith, w)
  light_flag r false f w = refl

  light_may_word : (r : r.Rule) (a : Option Token) (f : Shape) → weight r ≡ 0 → depth (p.may_word r a f) ≡ depth f
  light_may_word r None f w = refl
  light_may_word r (Some t) f w = omega (arith, w)

  light_words : (r : r.Rule) (ts : List Token) (f : Shape) → weight r ≡ 0 → depth (p.words r ts f) ≡ depth f
  light_words r [] f w = refl
  light_words r (t ∷ ts) f w = omega (arith, w, light_words r ts f w)

  light_further : (r : r.Rule) (ts : List Token) (f : Shape) → weight r ≡ 0 → depth (p.further_words r ts f) ≡ depth f
  light_further r [] f w = refl
  light_further r (t ∷ ts) f w = omega (arith, w, light_further r ts f w)

  light_first : (r : r.Rule) (ts : List Token) (f : Shape) → weight r ≡ 0 → depth (p.first_words r ts f) ≡ depth f
  light_first r [] f w = refl
  light_first r (t ∷ ts) f w = light_further r ts f w

  light_end : (r q : r.Rule) (b : Bool) (f : Shape) → weight r ≡ 0 → weight q ≡ 0 → depth (p.list_end r q b f) ≡ depth f
  light_end r q true f v w = omega (arith, w)
  light_end r q false f v w = omega (arith, v)

  light_names : (ts : List Token) (f : Shape) → depth (p.put_names ts f) ≡ depth f
  light_names ts f = omega (arith, light_first r.further_name ts nil refl)

  light_may_names : (r : r.Rule) (ts : List Token) (f : Shape) → weight r ≡ 0 → depth (p.may_names r ts f) ≡ depth f
  light_may_names r [] f w = refl
  light_may_names r (t ∷ ts) f w = omega (arith, w, light_names (t ∷ ts) nil)

  light_may_extend : (a : Option Token) (f : Shape) → depth (p.may_extend a f) ≡ depth f
  light_may_extend None f = refl
  light_may_extend (Some t) f = omega arith

  light_type : (a : TypeTree) (f : Shape) → depth (p.put_type a f) ≡ depth f
  light_type (Nullable q t) f = omega arith
  light_type (Union t ts) f = omega (arith, light_further r.further_type ts nil refl)

  light_may_type : (a : Option TypeTree) (f : Shape) → depth (p.may_type a f) ≡ depth f
  light_may_type None f = refl
  light_may_type (Some a) f = light_type a f

  light_may_return : (a : Option TypeTree) (f : Shape) → depth (p.may_return a f) ≡ depth f
  light_may_return None f = refl
  light_may_return (Some a) f = omega (arith, light_type a nil)

  light_union : (b : Bool) (t : Token) (ts : List Token) (f : Shape) → depth (p.put_union b t ts f) ≡ depth f
  light_union true t ts f = omega (arith, light_first r.further_type ts nil refl)
  light_union false t ts f = omega (arith, light_further r.further_type ts nil refl)

  light_property_type : (a : Option TypeTree) (f : Shape) → depth (p.may_property_type a f) ≡ depth f
  light_property_type None f = refl
  light_property_type (Some (Nullable q t)) f = omega arith
  light_property_type (Some (Union t ts)) f = light_union (same_kind t.kind k.Static) t ts f

  light_from : (a : Option Token) (f : Shape) → depth (p.put_from a f) ≡ depth f
  light_from None f = refl
  light_from (Some t) f = omega arith

  light_alias : (a b : Option Token) (f : Shape) → depth (p.put_alias a b f) ≡ depth f
  light_alias None None f = refl
  light_alias (Some v) None f = omega arith
  light_alias (Some v) (Some t) f = omega arith
  light_alias None (Some t) f = omega arith

  light_adapting : (t : Token) (a : Adapting) (f : Shape) → depth (p.put_adapting t a f) ≡ depth f
  light_adapting t (InsteadOf ts) f = omega (arith, light_names ts (mark nil))
  light_adapting t (Alias a b) f = omega (arith, light_alias a b nil)

  light_adaptations : (xs : List Adaptation) (f : Shape) → depth (p.put_adaptations xs f) ≡ depth f
  light_adaptations [] f = refl
  light_adaptations (x ∷ xs) f = omega (arith, light_from x.from (p.put_adapting x.method x.adapting nil), light_adapting x.method x.adapting nil, light_adaptations xs f)

  use_end_depth : (a : Option (List Adaptation)) (f : Shape) → depth (p.put_use_end a f) ≡ max (model.adaptations_depth a) (depth f)
  use_end_depth None f = omega arith
  use_end_depth (Some xs) f = omega (arith, light_adaptations xs (mark nil))

  parameter_put : (t : Token) (a : Option Token) (b : Option TypeTree) (reference variadic : Bool) (n : Token) (v f : Shape) → depth (p.put_parameter t a b reference variadic n v f) ≡ max (depth v) (depth f)
  parameter_put t a b reference variadic n v f = omega (
    arith,
    light_may_word r.visible a (p.may_type b (p.flag r.by_reference reference (p.flag r.variadic variadic (word n v)))) refl,
    light_may_type b (p.flag r.by_reference reference (p.flag r.variadic variadic (word n v))),
    light_flag r.by_reference reference (p.flag r.variadic variadic (word n v)) refl,
    light_flag r.variadic variadic (word n v) refl,
  )

  catch_put : (t : Token) (ts : List Token) (a : Option Token) (b f : Shape) → depth (p.put_catch t ts a b f) ≡ max (depth b + 1) (depth f)
  catch_put t ts a b f = omega (arith, light_first r.further_class ts (p.may_word r.catch_variable a (mark nil)) refl, light_may_word r.catch_variable a (mark nil) refl)

  method_put : (reference : Bool) (n : Token) (b f : Shape) → depth (p.put_method reference n b f) ≡ max (depth b) (depth f)
  method_put reference n b f = omega (arith, light_flag r.by_reference reference (word n b) refl)

-- ---- statements

mutual
  pub value_depth : (v : Value) (f : Shape) → depth (p.put_value v f) ≡ max (model.value_depth v) (depth f)
  value_depth (value e bs) f = omega (arith, bodies bs)

  pub bodies : (bs : Bodies) → bodies_depth (p.put_bodies bs) ≡ model.bodies_depth bs
  bodies no_body = refl
  bodies (body held ss bs) = omega (arith, all ss (mark nil), bodies bs)

  pub may_return_value : (v : MayValue) (f : Shape) → depth (p.may_return_value v f) ≡ max (model.may_value_depth v) (depth f)
  may_return_value no_value f = omega arith
  may_return_value (some_value v) f = omega (arith, value_depth v nil)

  pub default : (v : MayValue) (f : Shape) → depth (p.put_default v f) ≡ max (model.may_value_depth v) (depth f)
  default no_value f = omega arith
  default (some_value v) f = omega (arith, value_depth v nil)

  pub further_values : (r : r.Rule) (vs : Values) (f : Shape) → weight r ≡ 0 → depth (p.further_values r vs f) ≡ max (model.values_depth vs) (depth f)
  further_values r no_more_value f w = omega arith
  further_values r (more_value v vs) f w = omega (arith, w, value_depth v nil, further_values r vs f w)

  pub first_values : (r : r.Rule) (vs : Values) (f : Shape) → weight r ≡ 0 → depth (p.first_values r vs f) ≡ max (model.values_depth vs) (depth f)
  first_values r no_more_value f w = omega arith
  first_values r (more_value v vs) f w = omega (arith, value_depth v (p.further_values r vs f), further_values r vs f w)

  pub may_values : (vs : Values) (f : Shape) → depth (p.may_values vs f) ≡ max (model.values_depth vs) (depth f)
  may_values no_more_value f = omega arith
  may_values (more_value v vs) f = omega (arith, value_depth v (p.further_values r.further_expression vs nil), further_values r.further_expression vs nil refl)

  pub statement_depth : (s : Statement) (f : Shape) → depth (p.put s f) ≡ max (model.depth s) (depth f)
  statement_depth (node t x) f = form t x f

  pub form : (t : Token) (x : Form) (f : Shape) → depth (p.put_form t x f) ≡ max (model.form_depth x) (depth f)
  form t (Block ss) f = omega (arith, all ss (mark nil))
  form t (Empty end) f = omega arith
  form t (Expression v end) f = omega (arith, value_depth v (word end nil))
  form t (Echo vs end) f = omega (arith, may_values vs (word end nil))
  form t (Return v end) f = omega (arith, may_return_value v (word end nil))
  form t (If v s es o) f = omega (arith, value_depth v (mark nil), statement_depth s (p.put_else_ifs es (p.put_else o nil)), else_ifs es (p.put_else o nil), otherwise o nil)
  form t (While v s) f = omega (arith, value_depth v (mark nil), statement_depth s nil)
  form t (Do s v end) f = omega (arith, statement_depth s (mark (p.in_brackets (p.put_value v (mark nil)) (word end nil))), value_depth v (mark nil))
  form t (For vs us ws s) f = omega (arith, may_values vs (mark (p.may_values us (mark (p.may_values ws (mark nil))))), may_values us (mark (p.may_values ws (mark nil))), may_values ws (mark nil), statement_depth s nil)
  form t (ForEach v key reference element s) f = omega (arith, value_depth v (mark (p.put_target key reference (p.put_value element (mark nil)) nil)), target key reference (p.put_value element (mark nil)) nil, value_depth element (mark nil), statement_depth s nil)
  form t (Switch v cs) f = omega (arith, value_depth v (mark nil), cases cs (mark nil))
  form t (Break levels end) f = omega (arith, light_may_word r.levels levels (word end nil) refl)
  form t (Continue levels end) f = omega (arith, light_may_word r.levels levels (word end nil) refl)
  form t (Try ss cs b) f = omega (arith, all ss (mark nil), handlers cs (p.put_finally b nil) nil, finally b nil)
  form t (Unset vs comma end) f = omega (arith, first_values r.further_argument vs (p.list_end r.closing r.comma_closing comma nil) refl, light_end r.closing r.comma_closing comma nil refl refl)
  form t (Global ts end) f = omega (arith, light_first r.further_global ts (word end nil) refl)
  form t (Static vs end) f = omega (arith, variables vs (word end nil))
  form t (Const cs end) f = omega (arith, constants r.constant r.further_constant cs (word end nil) refl refl)
  form t (Declare name number end) f = omega arith
  form t (Function reference name ps comma type ss) f = omega (
    arith,
    light_flag r.by_reference reference (word name (p.put_parameters ps comma (p.may_return type (p.in_braces (p.put_all ss (mark nil)) nil)))) refl,
    parameters ps comma (p.may_return type (p.in_braces (p.put_all ss (mark nil)) nil)),
    light_may_return type (p.in_braces (p.put_all ss (mark nil)) nil),
    all ss (mark nil),
  )
  form t (Class modifiers name parent interfaces ms) f = omega (
    arith,
    light_words r.class_modifier modifiers (mark (word name (p.may_extend parent (p.may_names r.implements interfaces (p.class_braces (p.put_members ms (mark nil)) nil))))) refl,
    light_may_extend parent (p.may_names r.implements interfaces (p.class_braces (p.put_members ms (mark nil)) nil)),
    light_may_names r.implements interfaces (p.class_braces (p.put_members ms (mark nil)) nil) refl,
    members ms (mark nil),
  )
  form t (Interface name parents ms) f = omega (arith, light_may_names r.interface_extends parents (p.class_braces (p.put_members ms (mark nil)) nil) refl, members ms (mark nil))
  form t (Trait name ms) f = omega (arith, members ms (mark nil))

  pub all : (ss : Statements) (f : Shape) → depth (p.put_all ss f) ≡ max (model.statements_depth ss) (depth f)
  all no_statement f = omega arith
  all (statement s ss) f = omega (arith, statement_depth s (p.put_all ss f), all ss f)

  pub otherwise : (o : MayStatement) (f : Shape) → depth (p.put_else o f) ≡ max (model.else_depth o) (depth f)
  otherwise no_else f = omega arith
  otherwise (else s) f = omega (arith, statement_depth s nil)

  pub else_ifs : (es : ElseIfs) (f : Shape) → depth (p.put_else_ifs es f) ≡ max (model.else_ifs_depth es) (depth f)
  else_ifs no_else_if f = omega arith
  else_ifs (else_if t v s es) f = omega (arith, value_depth v (mark nil), statement_depth s nil, else_ifs es f)

  pub target : (key : MayValue) (reference : Bool) (e f : Shape) → depth (p.put_target key reference e f) ≡ max (max (model.may_value_depth key) (depth e)) (depth f)
  target no_value true e f = omega arith
  target no_value false e f = omega arith
  target (some_value v) reference e f = omega (arith, value_depth v (mark (p.flag r.by_reference reference e)), light_flag r.by_reference reference e refl)

  pub cases : (cs : Cases) (f : Shape) → depth (p.put_cases cs f) ≡ max (model.cases_depth cs) (depth f)
  cases no_case f = omega arith
  cases (case t no_value m ss cs) f = omega (arith, all ss nil, cases cs f)
  cases (case t (some_value v) m ss cs) f = omega (arith, value_depth v (word m (p.put_all ss nil)), all ss nil, cases cs f)

  pub finally : (b : MayBlock) (f : Shape) → depth (p.put_finally b f) ≡ max (model.may_block_depth b) (depth f)
  finally no_block f = omega arith
  finally (block ss) f = omega (arith, all ss (mark nil))

  pub handlers : (cs : Catches) (e f : Shape) → depth (p.put_handlers cs e f) ≡ max (max (model.catches_depth cs) (depth e)) (depth f)
  handlers no_catch e f = omega arith
  handlers (catch t ts a ss cs) e f = omega (arith, catch_put t ts a (p.put_all ss (mark nil)) (p.put_catches cs e), all ss (mark nil), catches cs e)

  pub catches : (cs : Catches) (f : Shape) → depth (p.put_catches cs f) ≡ max (model.catches_depth cs) (depth f)
  catches no_catch f = omega arith
  catches (catch t ts a ss cs) f = omega (arith, catch_put t ts a (p.put_all ss (mark nil)) (p.put_catches cs f), all ss (mark nil), catches cs f)

  pub variables : (vs : Variables) (f : Shape) → depth (p.put_variables vs f) ≡ max (model.variables_depth vs) (depth f)
  variables no_variable f = omega arith
  variables (variable t v vs) f = omega (arith, default v nil, further_variables vs f)

  pub further_variables : (vs : Variables) (f : Shape) → depth (p.further_variables vs f) ≡ max (model.variables_depth vs) (depth f)
  further_variables no_variable f = omega arith
  further_variables (variable t v vs) f = omega (arith, default v nil, further_variables vs f)

  pub constants : (r q : r.Rule) (cs : Constants) (f : Shape) → weight r ≡ 0 → weight q ≡ 0 → depth (p.put_constants r q cs f) ≡ max (model.constants_depth cs) (depth f)
  constants r q no_constant f w x = omega arith
  constants r q (constant t v cs) f w x = omega (arith, w, value_depth v nil, further_constants r q cs f w x)

  pub further_constants : (r q : r.Rule) (cs : Constants) (f : Shape) → weight r ≡ 0 → weight q ≡ 0 → depth (p.further_constants r q cs f) ≡ max (model.constants_depth cs) (depth f)
  further_constants r q no_constant f w x = omega arith
  further_constants r q (constant t v cs) f w x = omega (arith, w, x, value_depth v nil, further_constants r q cs f w x)

  pub parameters : (ps : Parameters) (comma : Bool) (f : Shape) → depth (p.put_parameters ps comma f) ≡ max (model.parameters_depth ps + 1) (depth f)
  parameters no_parameter true f = omega arith
  parameters no_parameter false f = omega arith
  parameters (parameter t a b reference variadic n v ps) comma f = omega (
    arith,
    parameter_put t a b reference variadic n (p.put_default v nil) (p.further_parameters ps (p.list_end r.closing r.comma_closing comma nil)),
    default v nil,
    further_parameters ps (p.list_end r.closing r.comma_closing comma nil),
    light_end r.closing r.comma_closing comma nil refl refl,
  )

  pub further_parameters : (ps : Parameters) (f : Shape) → depth (p.further_parameters ps f) ≡ max (model.parameters_depth ps) (depth f)
  further_parameters no_parameter f = omega arith
  further_parameters (parameter t a b reference variadic n v ps) f = omega (arith, parameter_put t a b reference variadic n (p.put_default v nil) nil, default v nil, further_parameters ps f)

  pub members : (ms : Members) (f : Shape) → depth (p.put_members ms f) ≡ max (model.members_depth ms) (depth f)
  members no_member f = omega arith
  members (member t m ms) f = omega (arith, one_member t m (p.put_members ms f), members ms f)

  pub one_member : (t : Token) (m : Member) (f : Shape) → depth (p.put_member t m f) ≡ max (model.member_depth m) (depth f)
  one_member t (TraitUse names end) f = omega (arith, light_names names (p.put_use_end end nil), use_end_depth end nil)
  one_member t (ClassConstants [] cs) f = omega (arith, constants r.class_constant r.further_class_constant cs (mark nil) refl refl)
  one_member t (ClassConstants (m ∷ ms) cs) f = omega (
    arith,
    light_words r.member_modifier ms (some r.modified_constants None (some r.class_constants None (mark (p.put_constants r.class_constant r.further_class_constant cs (mark nil))) nil) nil) refl,
    constants r.class_constant r.further_class_constant cs (mark nil) refl refl,
  )
  one_member t (Method [] reference n ps comma type b) f = omega (
    arith,
    method_put reference n (p.put_parameters ps comma (p.may_return type (p.put_method_body b nil))) nil,
    parameters ps comma (p.may_return type (p.put_method_body b nil)),
    light_may_return type (p.put_method_body b nil),
    method_body b nil,
  )
  one_member t (Method (m ∷ ms) reference n ps comma type b) f = omega (
    arith,
    light_words r.member_modifier ms (some r.modified_method None (p.put_method reference n (p.put_parameters ps comma (p.may_return type (p.put_method_body b nil))) nil) nil) refl,
    method_put reference n (p.put_parameters ps comma (p.may_return type (p.put_method_body b nil))) nil,
    parameters ps comma (p.may_return type (p.put_method_body b nil)),
    light_may_return type (p.put_method_body b nil),
    method_body b nil,
  )
  one_member t (Properties ms type vs) f = omega (
    arith,
    light_words r.member_modifier ms (some r.modified_properties None (some r.properties None (p.may_property_type type (p.put_variables vs (mark nil))) nil) nil) refl,
    light_property_type type (p.put_variables vs (mark nil)),
    variables vs (mark nil),
  )

  pub method_body : (b : MayBlock) (f : Shape) → depth (p.put_method_body b f) ≡ max (model.may_block_depth b) (depth f)
  method_body no_block f = omega arith
  method_body (block ss) f = omega (arith, all ss (mark nil))

-- ---- declarations

module _ where
  light_may_alias : (a : Option Token) (f : Shape) → depth (p.may_alias a f) ≡ depth f
  light_may_alias None f = refl
  light_may_alias (Some t) f = omega arith

  light_name : (x : Used) (f : Shape) → depth (p.put_name x f) ≡ depth f
  light_name x f = omega (arith, light_may_alias x.alias nil)

  light_group_item : (x : Used) (f : Shape) → depth (p.put_group_item x f) ≡ depth f
  light_group_item x f = omega (arith, light_may_word r.use_kind x.kind (p.put_name x nil) refl, light_name x nil)

  light_item_by : (a : Option Token) (x : Used) (f : Shape) → depth (p.put_item_by a x f) ≡ depth f
  light_item_by None x f = light_name x f
  light_item_by (Some t) x f = light_group_item x f

  light_item : (x : Used) (f : Shape) → depth (p.put_item x f) ≡ depth f
  light_item x f = light_item_by x.kind x f

  light_further_items : (r : r.Rule) (put_one : Used → Shape → Shape) → ((x : Used) (f : Shape) → depth (put_one x f) ≡ depth f) → (xs : List Used) (f : Shape) → weight r ≡ 0 → depth (p.further_items r put_one xs f) ≡ depth f
  light_further_items r put_one light [] f w = refl
  light_further_items r put_one light (x ∷ xs) f w = omega (arith, w, light x nil, light_further_items r put_one light xs f w)

  light_first_items : (r : r.Rule) (put_one : Used → Shape → Shape) → ((x : Used) (f : Shape) → depth (put_one x f) ≡ depth f) → (xs : List Used) (f : Shape) → weight r ≡ 0 → depth (p.first_items r put_one xs f) ≡ depth f
  light_first_items r put_one light [] f w = refl
  light_first_items r put_one light (x ∷ xs) f w = light x (p.further_items r put_one xs f) ∙ light_further_items r put_one light xs f w

mutual
  pub top_depth : (x : Top) (f : Shape) → depth (p.put_top x f) ≡ max (model.top_depth x) (depth f)
  top_depth (Namespace t name end) f = omega arith
  top_depth (NamespaceBlock t name xs) f = omega (arith, light_may_word r.namespace_name name (some r.tops None (mark (p.put_tops xs (mark nil))) nil) refl, tops_depth xs (mark nil))
  top_depth (Use t kind xs end) f = omega (
    arith,
    light_may_word r.use_kind kind (some r.use_list None (p.first_items r.further_use_item p.put_item xs (word end nil)) nil) refl,
    light_first_items r.further_use_item p.put_item light_item xs (word end nil) refl,
  )
  top_depth (UseGroup t kind name xs comma end) f = omega (
    arith,
    light_may_word r.use_kind kind (some r.use_group None (word name (mark (some r.group_items None (mark (p.first_items r.further_group_item p.put_group_item xs (p.list_end r.group_end r.comma_group_end comma nil))) (word end nil)))) nil) refl,
    light_first_items r.further_group_item p.put_group_item light_group_item xs (p.list_end r.group_end r.comma_group_end comma nil) refl,
    light_end r.group_end r.comma_group_end comma nil refl refl,
  )
  top_depth (Plain s) f = omega (arith, statement_depth s nil)

  pub tops_depth : (xs : Tops) (f : Shape) → depth (p.put_tops xs f) ≡ max (model.tops_depth xs) (depth f)
  tops_depth no_top f = omega arith
  tops_depth (top x xs) f = omega (arith, top_depth x (p.put_tops xs f), tops_depth xs f)
