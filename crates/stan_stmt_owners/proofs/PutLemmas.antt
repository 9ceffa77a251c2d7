-- What documentation comments can belong to, by productions, is what the trees give.
use Rattle.std.proofs.Common.{◌≡◌, Bool, true, false, List, [], ◌∷◌, ◌++◌, Option, Some, None, refl, ◌∙◌, append-nil, append_assoc, arith}
use Rattle.stan_model_grammar.specs.declared.token.Token.{Token}
use Rattle.stan_model_grammar.specs.declared.token.TokenKind.TheVariants as k
use Rattle.stan_model_grammar.specs.Trees.{TypeTree, Nullable, Union}
use Rattle.stan_model_statements.specs.Kinds.{same_kind}
use Rattle.stan_model_statements.specs.Rules as r
use Rattle.stan_model_statements.specs.Trees.{Adapting, InsteadOf, Alias, Adaptation, Value, value, Bodies, no_body, body, MayValue, no_value, some_value, Values, no_more_value, more_value, Statement, node, Form, Block, Empty, Expression, Echo, Return, If, While, Do, For, ForEach, Switch, Break, Continue, Try, Unset, Global, Static, Const, Declare, Function, Class, Interface, Trait, Statements, no_statement, statement, MayStatement, no_else, else, MayBlock, no_block, block, ElseIfs, no_else_if, else_if, Cases, no_case, case, Catches, no_catch, catch, Variables, no_variable, variable, Constants, no_constant, constant, Parameters, no_parameter, parameter, Members, no_member, member, Member, TraitUse, ClassConstants, Method, Properties, Used, Top, Namespace, NamespaceBlock, Use, UseGroup, Plain, Tops, no_top, top}
use Rattle.stan_model_files.specs.Owners.{first_if, owners, body_owners, file_owners}
use Rattle.stan_model_files.specs.Put as p
use Rattle.stan_model_files.specs.Shapes.{Shape, nil, mark, word, some}
use Rattle.stan_stmt_owners.specs.Owned.{value_owned, bodies_owned, may_value_owned, values_owned, statement_owned, form_owned, statements_owned, else_owned, may_block_owned, else_ifs_owned, cases_owned, catches_owned, variables_owned, constants_owned, parameters_owned, members_owned, member_owned, top_owned, tops_owned}

first_none : (b : Bool) (ts : List Token) → first_if b None ts ≡ ts
first_none true ts = refl
first_none false ts = refl

-- ---- what is put without an expression has none

module _ where
  light_flag : (r : r.Rule) (b : Bool) (f : Shape) → owners (p.flag r b f) ≡ owners f
  light_flag r true f = grind (arith, first_none, append-nil, append_assoc)
  light_flag r false f = refl

  light_may_word : (r : r.Rule) (a : Option Token) (f : Shape) → owners (p.may_word r a f) ≡ owners f
  light_may_word r None f = refl
  light_may_word r (Some t) f = grind (arith, first_none, append-nil, append_assoc)

  light_words : (r : r.Rule) (ts : List Token) (f : Shape) → owners (p.words r ts f) ≡ owners f
  light_words r [] f = refl
  light_words r (t ∷ ts) f = grind (arith, light_words r ts f, first_none, append-nil, append_assoc)

  light_further : (r : r.Rule) (ts : List Token) (f : Shape) → owners (p.further_words r ts f) ≡ owners f
  light_further r [] f = refl
  light_further r (t ∷ ts) f = grind (arith, light_further r ts f, first_none, append-nil, append_assoc)

  light_first : (r : r.Rule) (ts : List Token) (f : Shape) → owners (p.first_words r ts f) ≡ owners f
  light_first r [] f = refl
  light_first r (t ∷ ts) f = light_further r ts f

  light_end : (r q : r.Rule) (b : Bool) (f : Shape) → owners (p.list_end r q b f) ≡ owners f
  light_end r q true f = grind (arith, first_none, append-nil, append_assoc)
  light_end r q false f = grind (arith, first_none, append-nil, append_assoc)

  light_names : (ts : List Token) (f : Shape) → owners (p.put_names ts f) ≡ owners f
  light_names ts f = grind (arith, light_first r.further_name ts nil, first_none, append-nil, append_assoc)

  light_may_names : (r : r.Rule) (ts : List Token) (f : Shape) → owners (p.may_names r ts f) ≡ owners f
  light_may_names r [] f = refl
  light_may_names r (t ∷ ts) f = grind (arith, light_names (t ∷ ts) nil, first_none, append-nil, append_assoc)

  light_may_extend : (a : Option Token) (f : Shape) → owners (p.may_extend a f) ≡ owners f
  light_may_extend None f = refl
  light_may_extend (Some t) f = grind (arith, first_none, append-nil, append_assoc)

  light_type : (a : TypeTree) (f : Shape) → owners (p.put_type a f) ≡ owners f
  light_type (Nullable q t) f = grind (arith, first_none, append-nil, append_assoc)
  light_type (Union t ts) f = grind (arith, light_further r.further_type ts nil, first_none, append-nil, append_assoc)

  light_may_type : (a : Option TypeTree) (f : Shape) → owners (p.may_type a f) ≡ owners f
  light_may_type None f = refl
  light_may_type (Some a) f = light_type a f

  light_may_return : (a : Option TypeTree) (f : Shape) → owners (p.may_return a f) ≡ owners f
  light_may_return None f = refl
  light_may_return (Some a) f = grind (arith, light_type a nil, first_none, append-nil, append_assoc)

  light_union : (b : Bool) (t : Token) (ts : List Token) (f : Shape) → owners (p.put_union b t ts f) ≡ owners f
  light_union true t ts f = grind (arith, light_first r.further_type ts nil, first_none, append-nil, append_assoc)
  light_union false t ts f = grind (arith, light_further r.further_type ts nil, first_none, append-nil, append_assoc)

  light_property_type : (a : Option TypeTree) (f : Shape) → owners (p.may_property_type a f) ≡ owners f
  light_property_type None f = refl
  light_property_type (Some (Nullable q t)) f = grind (arith, first_none, append-nil, append_assoc)
  light_property_type (Some (Union t ts)) f = light_union (same_kind t.kind k.Static) t ts f

  light_from : (a : Option Token) (f : Shape) → owners (p.put_from a f) ≡ owners f
  light_from None f = refl
  light_from (Some t) f = grind (arith, first_none, append-nil, append_assoc)

  light_alias : (a b : Option Token) (f : Shape) → owners (p.put_alias a b f) ≡ owners f
  light_alias None None f = refl
  light_alias (Some v) None f = grind (arith, first_none, append-nil, append_assoc)
  light_alias (Some v) (Some t) f = grind (arith, first_none, append-nil, append_assoc)
  light_alias None (Some t) f = grind (arith, first_none, append-nil, append_assoc)

  light_adapting : (t : Token) (a : Adapting) (f : Shape) → owners (p.put_adapting t a f) ≡ owners f
  light_adapting t (InsteadOf ts) f = grind (arith, light_names ts (mark nil), first_none, append-nil, append_assoc)
  light_adapting t (Alias a b) f = grind (arith, light_alias a b nil, first_none, append-nil, append_assoc)

  light_adaptations : (xs : List Adaptation) (f : Shape) → owners (p.put_adaptations xs f) ≡ owners f
  light_adaptations [] f = refl
  light_adaptations (x ∷ xs) f = grind (arith, light_from x.from (p.put_adapting x.method x.adapting nil), light_adapting x.method x.adapting nil, light_adaptations xs f, first_none, append-nil, append_assoc)

  use_end_put : (a : Option (List Adaptation)) (f : Shape) → owners (p.put_use_end a f) ≡ owners f
  use_end_put None f = grind (arith, first_none, append-nil, append_assoc)
  use_end_put (Some xs) f = grind (arith, light_adaptations xs (mark nil), first_none, append-nil, append_assoc)

  parameter_put : (t : Token) (a : Option Token) (b : Option TypeTree) (reference variadic : Bool) (n : Token) (v f : Shape) → owners (p.put_parameter t a b reference variadic n v f) ≡ owners v ++ owners f
  parameter_put t a b reference variadic n v f = grind (
    arith,
    light_may_word r.visible a (p.may_type b (p.flag r.by_reference reference (p.flag r.variadic variadic (word n v)))),
    light_may_type b (p.flag r.by_reference reference (p.flag r.variadic variadic (word n v))),
    light_flag r.by_reference reference (p.flag r.variadic variadic (word n v)),
    light_flag r.variadic variadic (word n v),
    first_none,
    append-nil,
    append_assoc,
  )

  catch_put : (t : Token) (ts : List Token) (a : Option Token) (b f : Shape) → owners (p.put_catch t ts a b f) ≡ owners b ++ owners f
  catch_put t ts a b f = grind (arith, light_first r.further_class ts (p.may_word r.catch_variable a (mark nil)), light_may_word r.catch_variable a (mark nil), first_none, append-nil, append_assoc)

  method_put : (reference : Bool) (n : Token) (b f : Shape) → owners (p.put_method reference n b f) ≡ owners b ++ owners f
  method_put reference n b f = grind (arith, light_flag r.by_reference reference (word n b), first_none, append-nil, append_assoc)

-- ---- statements

mutual
  pub value_put : (v : Value) (f : Shape) → owners (p.put_value v f) ≡ value_owned v ++ owners f
  value_put (value e bs) f = grind (arith, bodies bs, first_none, append-nil, append_assoc)

  pub bodies : (bs : Bodies) → body_owners (p.put_bodies bs) ≡ bodies_owned bs
  bodies no_body = refl
  bodies (body held ss bs) = grind (arith, all ss (mark nil), bodies bs, first_none, append-nil, append_assoc)

  pub may_return_value : (v : MayValue) (f : Shape) → owners (p.may_return_value v f) ≡ may_value_owned v ++ owners f
  may_return_value no_value f = grind (arith, first_none, append-nil, append_assoc)
  may_return_value (some_value v) f = grind (arith, value_put v nil, first_none, append-nil, append_assoc)

  pub default : (v : MayValue) (f : Shape) → owners (p.put_default v f) ≡ may_value_owned v ++ owners f
  default no_value f = grind (arith, first_none, append-nil, append_assoc)
  default (some_value v) f = grind (arith, value_put v nil, first_none, append-nil, append_assoc)

  pub further_values : (r : r.Rule) (vs : Values) (f : Shape) → owners (p.further_values r vs f) ≡ values_owned vs ++ owners f
  further_values r no_more_value f = grind (arith, first_none, append-nil, append_assoc)
  further_values r (more_value v vs) f = grind (arith, value_put v nil, further_values r vs f, first_none, append-nil, append_assoc)

  pub first_values : (r : r.Rule) (vs : Values) (f : Shape) → owners (p.first_values r vs f) ≡ values_owned vs ++ owners f
  first_values r no_more_value f = grind (arith, first_none, append-nil, append_assoc)
  first_values r (more_value v vs) f = grind (arith, value_put v (p.further_values r vs f), further_values r vs f, first_none, append-nil, append_assoc)

  pub may_values : (vs : Values) (f : Shape) → owners (p.may_values vs f) ≡ values_owned vs ++ owners f
  may_values no_more_value f = grind (arith, first_none, append-nil, append_assoc)
  may_values (more_value v vs) f = grind (arith, value_put v (p.further_values r.further_expression vs nil), further_values r.further_expression vs nil, first_none, append-nil, append_assoc)

  pub statement_put : (s : Statement) (f : Shape) → owners (p.put s f) ≡ statement_owned s ++ owners f
  statement_put (node t x) f = form t x f

  pub form : (t : Token) (x : Form) (f : Shape) → owners (p.put_form t x f) ≡ t ∷ form_owned x ++ owners f
  form t (Block ss) f = grind (arith, all ss (mark nil), first_none, append-nil, append_assoc)
  form t (Empty end) f = grind (arith, first_none, append-nil, append_assoc)
  form t (Expression v end) f = grind (arith, value_put v (word end nil), first_none, append-nil, append_assoc)
  form t (Echo vs end) f = grind (arith, may_values vs (word end nil), first_none, append-nil, append_assoc)
  form t (Return v end) f = grind (arith, may_return_value v (word end nil), first_none, append-nil, append_assoc)
  form t (If v s es o) f = grind (arith, value_put v (mark nil), statement_put s (p.put_else_ifs es (p.put_else o nil)), else_ifs es (p.put_else o nil), otherwise o nil, first_none, append-nil, append_assoc)
  form t (While v s) f = grind (arith, value_put v (mark nil), statement_put s nil, first_none, append-nil, append_assoc)
  form t (Do s v end) f = grind (arith, statement_put s (mark (p.in_brackets (p.put_value v (mark nil)) (word end nil))), value_put v (mark nil), first_none, append-nil, append_assoc)
  form t (For vs us ws s) f = grind (arith, may_values vs (mark (p.may_values us (mark (p.may_values ws (mark nil))))), may_values us (mark (p.may_values ws (mark nil))), may_values ws (mark nil), statement_put s nil, first_none, append-nil, append_assoc)
  form t (ForEach v key reference element s) f = grind (arith, value_put v (mark (p.put_target key reference (p.put_value element (mark nil)) nil)), target key reference (p.put_value element (mark nil)) nil, value_put element (mark nil), statement_put s nil, first_none, append-nil, append_assoc)
  form t (Switch v cs) f = grind (arith, value_put v (mark nil), cases cs (mark nil), first_none, append-nil, append_assoc)
  form t (Break levels end) f = grind (arith, light_may_word r.levels levels (word end nil), first_none, append-nil, append_assoc)
  form t (Continue levels end) f = grind (arith, light_may_word r.levels levels (word end nil), first_none, append-nil, append_assoc)
  form t (Try ss cs b) f = grind (arith, all ss (mark nil), handlers cs (p.put_finally b nil) nil, finally b nil, first_none, append-nil, append_assoc)
  form t (Unset vs comma end) f = grind (arith, first_values r.further_argument vs (p.list_end r.closing r.comma_closing comma nil), light_end r.closing r.comma_closing comma nil, first_none, append-nil, append_assoc)
  form t (Global ts end) f = grind (arith, light_first r.further_global ts (word end nil), first_none, append-nil, append_assoc)
  form t (Static vs end) f = grind (arith, variables vs (word end nil), first_none, append-nil, append_assoc)
  form t (Const cs end) f = grind (arith, constants r.constant r.further_constant cs (word end nil), first_none, append-nil, append_assoc)
  form t (Declare name number end) f = grind (arith, first_none, append-nil, append_assoc)
  form t (Function reference name ps comma type ss) f = grind (
    arith,
    light_flag r.by_reference reference (word name (p.put_parameters ps comma (p.may_return type (p.in_braces (p.put_all ss (mark nil)) nil)))),
    parameters ps comma (p.may_return type (p.in_braces (p.put_all ss (mark nil)) nil)),
    light_may_return type (p.in_braces (p.put_all ss (mark nil)) nil),
    all ss (mark nil),
    first_none,
    append-nil,
    append_assoc,
  )
  form t (Class modifiers name parent interfaces ms) f = grind (
    arith,
    light_words r.class_modifier modifiers (mark (word name (p.may_extend parent (p.may_names r.implements interfaces (p.class_braces (p.put_members ms (mark nil)) nil))))),
    light_may_extend parent (p.may_names r.implements interfaces (p.class_braces (p.put_members ms (mark nil)) nil)),
    light_may_names r.implements interfaces (p.class_braces (p.put_members ms (mark nil)) nil),
    members ms (mark nil),
    first_none,
    append-nil,
    append_assoc,
  )
  form t (Interface name parents ms) f = grind (arith, light_may_names r.interface_extends parents (p.class_braces (p.put_members ms (mark nil)) nil), members ms (mark nil), first_none, append-nil, append_assoc)
  form t (Trait name ms) f = grind (arith, members ms (mark nil), first_none, append-nil, append_assoc)

  pub all : (ss : Statements) (f : Shape) → owners (p.put_all ss f) ≡ statements_owned ss ++ owners f
  all no_statement f = grind (arith, first_none, append-nil, append_assoc)
  all (statement s ss) f = grind (arith, statement_put s (p.put_all ss f), all ss f, first_none, append-nil, append_assoc)

  pub otherwise : (o : MayStatement) (f : Shape) → owners (p.put_else o f) ≡ else_owned o ++ owners f
  otherwise no_else f = grind (arith, first_none, append-nil, append_assoc)
  otherwise (else s) f = grind (arith, statement_put s nil, first_none, append-nil, append_assoc)

  pub else_ifs : (es : ElseIfs) (f : Shape) → owners (p.put_else_ifs es f) ≡ else_ifs_owned es ++ owners f
  else_ifs no_else_if f = grind (arith, first_none, append-nil, append_assoc)
  else_ifs (else_if t v s es) f = grind (arith, value_put v (mark nil), statement_put s nil, else_ifs es f, first_none, append-nil, append_assoc)

  pub target : (key : MayValue) (reference : Bool) (e f : Shape) → owners (p.put_target key reference e f) ≡ (may_value_owned key ++ owners e) ++ owners f
  target no_value true e f = grind (arith, first_none, append-nil, append_assoc)
  target no_value false e f = grind (arith, first_none, append-nil, append_assoc)
  target (some_value v) reference e f = grind (arith, value_put v (mark (p.flag r.by_reference reference e)), light_flag r.by_reference reference e, first_none, append-nil, append_assoc)

  pub cases : (cs : Cases) (f : Shape) → owners (p.put_cases cs f) ≡ cases_owned cs ++ owners f
  cases no_case f = grind (arith, first_none, append-nil, append_assoc)
  cases (case t no_value m ss cs) f = grind (arith, all ss nil, cases cs f, first_none, append-nil, append_assoc)
  cases (case t (some_value v) m ss cs) f = grind (arith, value_put v (word m (p.put_all ss nil)), all ss nil, cases cs f, first_none, append-nil, append_assoc)

  pub finally : (b : MayBlock) (f : Shape) → owners (p.put_finally b f) ≡ may_block_owned b ++ owners f
  finally no_block f = grind (arith, first_none, append-nil, append_assoc)
  finally (block ss) f = grind (arith, all ss (mark nil), first_none, append-nil, append_assoc)

  pub handlers : (cs : Catches) (e f : Shape) → owners (p.put_handlers cs e f) ≡ (catches_owned cs ++ owners e) ++ owners f
  handlers no_catch e f = grind (arith, first_none, append-nil, append_assoc)
  handlers (catch t ts a ss cs) e f = grind (arith, catch_put t ts a (p.put_all ss (mark nil)) (p.put_catches cs e), all ss (mark nil), catches cs e, first_none, append-nil, append_assoc)

  pub catches : (cs : Catches) (f : Shape) → owners (p.put_catches cs f) ≡ catches_owned cs ++ owners f
  catches no_catch f = grind (arith, first_none, append-nil, append_assoc)
  catches (catch t ts a ss cs) f = grind (arith, catch_put t ts a (p.put_all ss (mark nil)) (p.put_catches cs f), all ss (mark nil), catches cs f, first_none, append-nil, append_assoc)

  pub variables : (vs : Variables) (f : Shape) → owners (p.put_variables vs f) ≡ variables_owned vs ++ owners f
  variables no_variable f = grind (arith, first_none, append-nil, append_assoc)
  variables (variable t v vs) f = grind (arith, default v nil, further_variables vs f, first_none, append-nil, append_assoc)

  pub further_variables : (vs : Variables) (f : Shape) → owners (p.further_variables vs f) ≡ variables_owned vs ++ owners f
  further_variables no_variable f = grind (arith, first_none, append-nil, append_assoc)
  further_variables (variable t v vs) f = grind (arith, default v nil, further_variables vs f, first_none, append-nil, append_assoc)

  pub constants : (r q : r.Rule) (cs : Constants) (f : Shape) → owners (p.put_constants r q cs f) ≡ constants_owned cs ++ owners f
  constants r q no_constant f = grind (arith, first_none, append-nil, append_assoc)
  constants r q (constant t v cs) f = grind (arith, value_put v nil, further_constants r q cs f, first_none, append-nil, append_assoc)

  pub further_constants : (r q : r.Rule) (cs : Constants) (f : Shape) → owners (p.further_constants r q cs f) ≡ constants_owned cs ++ owners f
  further_constants r q no_constant f = grind (arith, first_none, append-nil, append_assoc)
  further_constants r q (constant t v cs) f = grind (arith, value_put v nil, further_constants r q cs f, first_none, append-nil, append_assoc)

  pub parameters : (ps : Parameters) (comma : Bool) (f : Shape) → owners (p.put_parameters ps comma f) ≡ parameters_owned ps ++ owners f
  parameters no_parameter true f = grind (arith, first_none, append-nil, append_assoc)
  parameters no_parameter false f = grind (arith, first_none, append-nil, append_assoc)
  parameters (parameter t a b reference variadic n v ps) comma f = grind (
    arith,
    parameter_put t a b reference variadic n (p.put_default v nil) (p.further_parameters ps (p.list_end r.closing r.comma_closing comma nil)),
    default v nil,
    further_parameters ps (p.list_end r.closing r.comma_closing comma nil),
    light_end r.closing r.comma_closing comma nil,
    first_none,
    append-nil,
    append_assoc,
  )

  pub further_parameters : (ps : Parameters) (f : Shape) → owners (p.further_parameters ps f) ≡ parameters_owned ps ++ owners f
  further_parameters no_parameter f = grind (arith, first_none, append-nil, append_assoc)
  further_parameters (parameter t a b reference variadic n v ps) f = grind (arith, parameter_put t a b reference variadic n (p.put_default v nil) nil, default v nil, further_parameters ps f, first_none, append-nil, append_assoc)

  pub members : (ms : Members) (f : Shape) → owners (p.put_members ms f) ≡ members_owned ms ++ owners f
  members no_member f = grind (arith, first_none, append-nil, append_assoc)
  members (member t m ms) f = grind (arith, one_member t m (p.put_members ms f), members ms f, first_none, append-nil, append_assoc)

  pub one_member : (t : Token) (m : Member) (f : Shape) → owners (p.put_member t m f) ≡ t ∷ member_owned m ++ owners f
  one_member t (TraitUse names end) f = grind (arith, light_names names (p.put_use_end end nil), use_end_put end nil, first_none, append-nil, append_assoc)
  one_member t (ClassConstants [] cs) f = grind (arith, constants r.class_constant r.further_class_constant cs (mark nil), first_none, append-nil, append_assoc)
  one_member t (ClassConstants (m ∷ ms) cs) f = grind (
    arith,
    light_words r.member_modifier ms (some r.modified_constants None (some r.class_constants None (mark (p.put_constants r.class_constant r.further_class_constant cs (mark nil))) nil) nil),
    constants r.class_constant r.further_class_constant cs (mark nil),
    first_none,
    append-nil,
    append_assoc,
  )
  one_member t (Method [] reference n ps comma type b) f = grind (
    arith,
    method_put reference n (p.put_parameters ps comma (p.may_return type (p.put_method_body b nil))) nil,
    parameters ps comma (p.may_return type (p.put_method_body b nil)),
    light_may_return type (p.put_method_body b nil),
    method_body b nil,
    first_none,
    append-nil,
    append_assoc,
  )
  one_member t (Method (m ∷ ms) reference n ps comma type b) f = grind (
    arith,
    light_words r.member_modifier ms (some r.modified_method None (p.put_method reference n (p.put_parameters ps comma (p.may_return type (p.put_method_body b nil))) nil) nil),
    method_put reference n (p.put_parameters ps comma (p.may_return type (p.put_method_body b nil))) nil,
    parameters ps comma (p.may_return type (p.put_method_body b nil)),
    light_may_return type (p.put_method_body b nil),
    method_body b nil,
    first_none,
    append-nil,
    append_assoc,
  )
  one_member t (Properties ms type vs) f = grind (
    arith,
    light_words r.member_modifier ms (some r.modified_properties None (some r.properties None (p.may_property_type type (p.put_variables vs (mark nil))) nil) nil),
    light_property_type type (p.put_variables vs (mark nil)),
    variables vs (mark nil),
    first_none,
    append-nil,
    append_assoc,
  )

  pub method_body : (b : MayBlock) (f : Shape) → owners (p.put_method_body b f) ≡ may_block_owned b ++ owners f
  method_body no_block f = grind (arith, first_none, append-nil, append_assoc)
  method_body (block ss) f = grind (arith, all ss (mark nil), first_none, append-nil, append_assoc)

-- ---- declarations

module _ where
  light_may_alias : (a : Option Token) (f : Shape) → owners (p.may_alias a f) ≡ owners f
  light_may_alias None f = refl
  light_may_alias (Some t) f = grind (arith, first_none, append-nil, append_assoc)

  light_name : (x : Used) (f : Shape) → owners (p.put_name x f) ≡ owners f
  light_name x f = grind (arith, light_may_alias x.alias nil, first_none, append-nil, append_assoc)

  light_group_item : (x : Used) (f : Shape) → owners (p.put_group_item x f) ≡ owners f
  light_group_item x f = grind (arith, light_may_word r.use_kind x.kind (p.put_name x nil), light_name x nil, first_none, append-nil, append_assoc)

  light_item_by : (a : Option Token) (x : Used) (f : Shape) → owners (p.put_item_by a x f) ≡ owners f
  light_item_by None x f = light_name x f
  light_item_by (Some t) x f = light_group_item x f

  light_item : (x : Used) (f : Shape) → owners (p.put_item x f) ≡ owners f
  light_item x f = light_item_by x.kind x f

  light_further_items : (r : r.Rule) (put_one : Used → Shape → Shape) → ((x : Used) (f : Shape) → owners (put_one x f) ≡ owners f) → (xs : List Used) (f : Shape) → owners (p.further_items r put_one xs f) ≡ owners f
  light_further_items r put_one light [] f = refl
  light_further_items r put_one light (x ∷ xs) f = grind (arith, light x nil, light_further_items r put_one light xs f, first_none, append-nil, append_assoc)

  light_first_items : (r : r.Rule) (put_one : Used → Shape → Shape) → ((x : Used) (f : Shape) → owners (put_one x f) ≡ owners f) → (xs : List Used) (f : Shape) → owners (p.first_items r put_one xs f) ≡ owners f
  light_first_items r put_one light [] f = refl
  light_first_items r put_one light (x ∷ xs) f = light x (p.further_items r put_one xs f) ∙ light_further_items r put_one light xs f

mutual
  pub top_put : (x : Top) (f : Shape) → owners (p.put_top x f) ≡ top_owned x ++ owners f
  top_put (Namespace t name end) f = grind (arith, first_none, append-nil, append_assoc)
  top_put (NamespaceBlock t name xs) f = grind (arith, light_may_word r.namespace_name name (some r.tops None (mark (p.put_tops xs (mark nil))) nil), tops_put xs (mark nil), first_none, append-nil, append_assoc)
  top_put (Use t kind xs end) f = grind (
    arith,
    light_may_word r.use_kind kind (some r.use_list None (p.first_items r.further_use_item p.put_item xs (word end nil)) nil),
    light_first_items r.further_use_item p.put_item light_item xs (word end nil),
    first_none,
    append-nil,
    append_assoc,
  )
  top_put (UseGroup t kind name xs comma end) f = grind (
    arith,
    light_may_word r.use_kind kind (some r.use_group None (word name (mark (some r.group_items None (mark (p.first_items r.further_group_item p.put_group_item xs (p.list_end r.group_end r.comma_group_end comma nil))) (word end nil)))) nil),
    light_first_items r.further_group_item p.put_group_item light_group_item xs (p.list_end r.group_end r.comma_group_end comma nil),
    light_end r.group_end r.comma_group_end comma nil,
    first_none,
    append-nil,
    append_assoc,
  )
  top_put (Plain s) f = grind (arith, statement_put s nil, first_none, append-nil, append_assoc)

  pub tops_put : (xs : Tops) (f : Shape) → owners (p.put_tops xs f) ≡ tops_owned xs ++ owners f
  tops_put no_top f = grind (arith, first_none, append-nil, append_assoc)
  tops_put (top x xs) f = grind (arith, top_put x (p.put_tops xs f), tops_put xs f, first_none, append-nil, append_assoc)

pub file_owners_are : (xs : Tops) → file_owners xs ≡ tops_owned xs
file_owners_are xs = tops_put xs nil ∙ append-nil (tops_owned xs)
