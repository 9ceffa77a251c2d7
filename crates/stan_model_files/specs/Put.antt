-- The productions of each tree of statements and files, one clause a production: each is put before what stands behind it. Where a
-- production wants at least one of a list, the empty list is put as a part that lacks, which spells nothing.
use Rattle.std.specs.Prelude.{Bool, true, false, List, [], ◌∷◌, Option, Some, None}
use Rattle.stan_model_grammar.specs.declared.token.Token.{Token}
use Rattle.stan_model_grammar.specs.declared.token.TokenKind.TheVariants as k
use Rattle.stan_model_grammar.specs.Trees.{TypeTree, Nullable, Union}
use Rattle.stan_model_statements.specs.Kinds.{same_kind}
use Rattle.stan_model_statements.specs.Rules as r
use Rattle.stan_model_statements.specs.Trees.{Adapting, InsteadOf, Alias, Adaptation, Value, value, Bodies, no_body, body, MayValue, no_value, some_value, Values, no_more_value, more_value, Statement, node, Form, Block, Empty, Expression, Echo, Return, If, While, Do, For, ForEach, Switch, Break, Continue, Try, Unset, Global, Static, Const, Declare, Function, Class, Interface, Trait, Statements, no_statement, statement, MayStatement, no_else, else, MayBlock, no_block, block, ElseIfs, no_else_if, else_if, Cases, no_case, case, Catches, no_catch, catch, Variables, no_variable, variable, Constants, no_constant, constant, Parameters, no_parameter, parameter, Members, no_member, member, Member, TraitUse, ClassConstants, Method, Properties, Used, Top, Namespace, NamespaceBlock, Use, UseGroup, Plain, Tops, no_top, top}
use Rattle.stan_model_files.specs.Shapes as shapes
use Rattle.stan_model_files.specs.Shapes.{Shape, nil, mark, word, expr, none, some}

-- ---- tokens

-- a part that is one token, if it stands
abbrev pub may_word : r.Rule → Option Token → Shape → Shape
may_word r None f = none f
may_word r (Some t) f = some r None (word t nil) f

-- a part that is one mark, if it stands
abbrev pub flag : r.Rule → Bool → Shape → Shape
flag r false f = none f
flag r true f = some r None (mark nil) f

-- parts of one token each
abbrev pub words : r.Rule → List Token → Shape → Shape
words r [] f = none f
words r (t ∷ ts) f = some r None (word t nil) (words r ts f)

-- parts of a mark and a token each
abbrev pub further_words : r.Rule → List Token → Shape → Shape
further_words r [] f = none f
further_words r (t ∷ ts) f = some r None (mark (word t nil)) (further_words r ts f)

-- a token, and those behind it
abbrev pub first_words : r.Rule → List Token → Shape → Shape
first_words r [] f = none f
first_words r (t ∷ ts) f = word t (further_words r ts f)

-- the end of a list, without or with a `,` before it
abbrev pub list_end : r.Rule → r.Rule → Bool → Shape → Shape
list_end r q false f = some r None (mark nil) f
list_end r q true f = some q None (mark (mark nil)) f

-- ---- names and types

abbrev pub put_names : List Token → Shape → Shape
put_names ts f = some r.class_names None (first_words r.further_name ts nil) f

abbrev pub may_names : r.Rule → List Token → Shape → Shape
may_names r [] f = none f
may_names r (t ∷ ts) f = some r None (mark (put_names (t ∷ ts) nil)) f

abbrev pub may_extend : Option Token → Shape → Shape
may_extend None f = none f
may_extend (Some t) f = some r.extends None (mark (word t nil)) f

abbrev pub put_type : TypeTree → Shape → Shape
put_type (Nullable question t) f = some r.nullable_type None (word question (word t nil)) f
put_type (Union t ts) f = some r.union_type None (word t (further_words r.further_type ts nil)) f

abbrev pub may_type : Option TypeTree → Shape → Shape
may_type None f = none f
may_type (Some type) f = put_type type f

abbrev pub may_return : Option TypeTree → Shape → Shape
may_return None f = none f
may_return (Some type) f = some r.return_type None (mark (put_type type nil)) f

-- A type of a property that begins with `static` has `|` behind that.
abbrev pub put_union : Bool → Token → List Token → Shape → Shape
put_union true t ts f = some r.static_property_type None (word t (mark (first_words r.further_type ts nil))) f
put_union false t ts f = some r.union_property_type None (word t (further_words r.further_type ts nil)) f

abbrev pub may_property_type : Option TypeTree → Shape → Shape
may_property_type None f = none f
may_property_type (Some (Nullable question t)) f = some r.nullable_property_type None (word question (word t nil)) f
may_property_type (Some (Union t ts)) f = put_union (same_kind t.kind k.Static) t ts f

-- ---- adaptations

abbrev pub put_from : Option Token → Shape → Shape
put_from None f = none f
put_from (Some t) f = some r.adapted_trait None (word t (mark nil)) f

abbrev pub put_alias : Option Token → Option Token → Shape → Shape
put_alias None None f = none f
put_alias (Some v) None f = some r.alias_visibility None (word v (mark nil)) f
put_alias (Some v) (Some t) f = some r.visible_alias None (word v (word t (mark nil))) f
put_alias None (Some t) f = some r.plain_alias None (word t (mark nil)) f

abbrev pub put_adapting : Token → Adapting → Shape → Shape
put_adapting t (InsteadOf ts) f = some r.precedence None (word t (mark (put_names ts (mark nil)))) f
put_adapting t (Alias visibility name) f = some r.alias None (word t (mark (put_alias visibility name nil))) f

abbrev pub put_adaptations : List Adaptation → Shape → Shape
put_adaptations [] f = none f
put_adaptations (x ∷ xs) f = some r.adaptation None (put_from x.from (put_adapting x.method x.adapting nil)) (put_adaptations xs f)

abbrev pub put_use_end : Option (List Adaptation) → Shape → Shape
put_use_end None f = some r.no_adaptations None (mark nil) f
put_use_end (Some xs) f = some r.adaptations None (some r.adaptation_list None (mark (put_adaptations xs (mark nil))) nil) f

-- ---- statements, by what their parts put

abbrev pub in_brackets : Shape → Shape → Shape
in_brackets e f = some r.condition None (mark e) f

abbrev pub in_braces : Shape → Shape → Shape
in_braces b f = some r.block None (mark b) f

abbrev pub class_braces : Shape → Shape → Shape
class_braces b f = some r.class_body None (mark b) f

abbrev pub for_each_head : Shape → Shape → Shape
for_each_head e f = some r.for_each_head None (mark e) f

abbrev pub put_method : Bool → Token → Shape → Shape → Shape
put_method reference name b f = some r.method None (mark (flag r.by_reference reference (word name b))) f

abbrev pub put_parameter : Token → Option Token → Option TypeTree → Bool → Bool → Token → Shape → Shape → Shape
put_parameter t visibility type reference variadic name v f =
    some r.parameter (Some t) (may_word r.visible visibility (may_type type (flag r.by_reference reference (flag r.variadic variadic (word name v))))) f

abbrev pub put_catch : Token → List Token → Option Token → Shape → Shape → Shape
put_catch t ts name b f = some r.catch_part (Some t) (mark (some r.catch_head None (mark (first_words r.further_class ts (may_word r.catch_variable name (mark nil)))) (in_braces b nil))) f

abbrev mutual
  pub put_value : Value → Shape → Shape
  put_value (value e bs) f = expr e (put_bodies bs) f

  pub put_bodies : Bodies → shapes.Bodies
  put_bodies no_body = shapes.no_body
  put_bodies (body held ss bs) = shapes.body held (put_all ss (mark nil)) (put_bodies bs)

  pub may_return_value : MayValue → Shape → Shape
  may_return_value no_value f = none f
  may_return_value (some_value v) f = some r.value_part None (put_value v nil) f

  pub put_default : MayValue → Shape → Shape
  put_default no_value f = none f
  put_default (some_value v) f = some r.default None (mark (put_value v nil)) f

  pub further_values : r.Rule → Values → Shape → Shape
  further_values r no_more_value f = none f
  further_values r (more_value v vs) f = some r None (mark (put_value v nil)) (further_values r vs f)

  pub first_values : r.Rule → Values → Shape → Shape
  first_values r no_more_value f = none f
  first_values r (more_value v vs) f = put_value v (further_values r vs f)

  -- the lists of a `for`
  pub may_values : Values → Shape → Shape
  may_values no_more_value f = none f
  may_values (more_value v vs) f = some r.expressions None (put_value v (further_values r.further_expression vs nil)) f

  pub put : Statement → Shape → Shape
  put (node t f) g = put_form t f g

  pub put_form : Token → Form → Shape → Shape
  put_form t (Block ss) f = some r.block_statement (Some t) (in_braces (put_all ss (mark nil)) nil) f
  put_form t (Empty end) f = some r.empty_statement (Some t) (word end nil) f
  put_form t (Expression v end) f = some r.expression_statement (Some t) (put_value v (word end nil)) f
  put_form t (Echo vs end) f = some r.echo_statement (Some t) (mark (may_values vs (word end nil))) f
  put_form t (Return v end) f = some r.return_statement (Some t) (mark (may_return_value v (word end nil))) f
  put_form t (If v s es o) f = some r.if_statement (Some t) (mark (in_brackets (put_value v (mark nil)) (put s (put_else_ifs es (put_else o nil))))) f
  put_form t (While v s) f = some r.while_statement (Some t) (mark (in_brackets (put_value v (mark nil)) (put s nil))) f
  put_form t (Do s v end) f = some r.do_statement (Some t) (mark (put s (mark (in_brackets (put_value v (mark nil)) (word end nil))))) f
  put_form t (For vs us ws s) f = some r.for_statement (Some t) (mark (some r.for_head None (mark (may_values vs (mark (may_values us (mark (may_values ws (mark nil))))))) (put s nil))) f
  put_form t (ForEach v key reference element s) f = some r.for_each_statement (Some t) (mark (for_each_head (put_value v (mark (put_target key reference (put_value element (mark nil)) nil))) (put s nil))) f
  put_form t (Switch v cs) f = some r.switch_statement (Some t) (mark (in_brackets (put_value v (mark nil)) (some r.cases None (mark (put_cases cs (mark nil))) nil))) f
  put_form t (Break levels end) f = some r.break_statement (Some t) (mark (may_word r.levels levels (word end nil))) f
  put_form t (Continue levels end) f = some r.continue_statement (Some t) (mark (may_word r.levels levels (word end nil))) f
  put_form t (Try ss cs b) f = some r.try_statement (Some t) (mark (in_braces (put_all ss (mark nil)) (put_handlers cs (put_finally b nil) nil))) f
  put_form t (Unset vs comma end) f = some r.unset_statement (Some t) (mark (some r.unset_list None (mark (first_values r.further_argument vs (list_end r.closing r.comma_closing comma nil))) (word end nil))) f
  put_form t (Global ts end) f = some r.global_statement (Some t) (mark (first_words r.further_global ts (word end nil))) f
  put_form t (Static vs end) f = some r.static_statement (Some t) (mark (put_variables vs (word end nil))) f
  put_form t (Const cs end) f = some r.const_statement (Some t) (mark (put_constants r.constant r.further_constant cs (word end nil))) f
  put_form t (Declare name number end) f = some r.declare_statement (Some t) (mark (some r.directive None (mark (word name (mark (word number (mark nil))))) (word end nil))) f
  put_form t (Function reference name ps comma type ss) f = some r.function_statement (Some t) (mark (flag r.by_reference reference (word name (put_parameters ps comma (may_return type (in_braces (put_all ss (mark nil)) nil)))))) f
  put_form t (Class modifiers name parent interfaces ms) f = some r.class_statement (Some t) (words r.class_modifier modifiers (mark (word name (may_extend parent (may_names r.implements interfaces (class_braces (put_members ms (mark nil)) nil)))))) f
  put_form t (Interface name parents ms) f = some r.interface_statement (Some t) (mark (word name (may_names r.interface_extends parents (class_braces (put_members ms (mark nil)) nil)))) f
  put_form t (Trait name ms) f = some r.trait_statement (Some t) (mark (word name (class_braces (put_members ms (mark nil)) nil))) f

  pub put_all : Statements → Shape → Shape
  put_all no_statement f = none f
  put_all (statement s ss) f = put s (put_all ss f)

  pub put_else : MayStatement → Shape → Shape
  put_else no_else f = none f
  put_else (else s) f = some r.else_part None (mark (put s nil)) f

  pub put_else_ifs : ElseIfs → Shape → Shape
  put_else_ifs no_else_if f = none f
  put_else_ifs (else_if t v s es) f = some r.else_if_part (Some t) (mark (in_brackets (put_value v (mark nil)) (put s nil))) (put_else_ifs es f)

  -- by what the element puts
  pub put_target : MayValue → Bool → Shape → Shape → Shape
  put_target no_value true e f = some r.reference_target None (mark e) f
  put_target no_value false e f = some r.value_target None e f
  put_target (some_value key) reference e f = some r.keyed_target None (put_value key (mark (flag r.by_reference reference e))) f

  pub put_cases : Cases → Shape → Shape
  put_cases no_case f = none f
  put_cases (case t no_value end ss cs) f = some r.default_part (Some t) (mark (word end (put_all ss nil))) (put_cases cs f)
  put_cases (case t (some_value v) end ss cs) f = some r.case_part (Some t) (mark (put_value v (word end (put_all ss nil)))) (put_cases cs f)

  pub put_finally : MayBlock → Shape → Shape
  put_finally no_block f = none f
  put_finally (block ss) f = some r.finally_part None (mark (in_braces (put_all ss (mark nil)) nil)) f

  -- by what the `finally` puts
  pub put_handlers : Catches → Shape → Shape → Shape
  put_handlers no_catch e f = some r.only_finally None e f
  put_handlers (catch t ts name ss cs) e f = some r.catches None (put_catch t ts name (put_all ss (mark nil)) (put_catches cs e)) f

  pub put_catches : Catches → Shape → Shape
  put_catches no_catch f = none f
  put_catches (catch t ts name ss cs) f = put_catch t ts name (put_all ss (mark nil)) (put_catches cs f)

  pub put_variables : Variables → Shape → Shape
  put_variables no_variable f = none f
  put_variables (variable t v vs) f = some r.declared None (word t (put_default v nil)) (further_variables vs f)

  pub further_variables : Variables → Shape → Shape
  further_variables no_variable f = none f
  further_variables (variable t v vs) f = some r.further_declared None (mark (some r.declared None (word t (put_default v nil)) nil)) (further_variables vs f)

  pub put_constants : r.Rule → r.Rule → Constants → Shape → Shape
  put_constants r q no_constant f = none f
  put_constants r q (constant t v cs) f = some r None (word t (mark (put_value v nil))) (further_constants r q cs f)

  pub further_constants : r.Rule → r.Rule → Constants → Shape → Shape
  further_constants r q no_constant f = none f
  further_constants r q (constant t v cs) f = some q None (mark (some r None (word t (mark (put_value v nil))) nil)) (further_constants r q cs f)

  -- without parameters no `,` stands
  pub put_parameters : Parameters → Bool → Shape → Shape
  put_parameters no_parameter false f = some r.no_parameters None (mark (mark nil)) f
  put_parameters no_parameter true f = some r.no_parameters None (mark (none nil)) f
  put_parameters (parameter t visibility type reference variadic name v ps) comma f = some r.parameters None
      (mark (put_parameter t visibility type reference variadic name (put_default v nil) (further_parameters ps (list_end r.closing r.comma_closing comma nil)))) f

  pub further_parameters : Parameters → Shape → Shape
  further_parameters no_parameter f = none f
  further_parameters (parameter t visibility type reference variadic name v ps) f = some r.further_parameter None
      (mark (put_parameter t visibility type reference variadic name (put_default v nil) nil)) (further_parameters ps f)

  pub put_members : Members → Shape → Shape
  put_members no_member f = none f
  put_members (member t m ms) f = put_member t m (put_members ms f)

  pub put_member : Token → Member → Shape → Shape
  put_member t (TraitUse names end) f = some r.trait_use (Some t) (mark (put_names names (put_use_end end nil))) f
  put_member t (ClassConstants [] cs) f = some r.constants_member (Some t) (some r.class_constants None (mark (put_constants r.class_constant r.further_class_constant cs (mark nil))) nil) f
  put_member t (ClassConstants (m ∷ ms) cs) f = some r.modified_member (Some t) (words r.member_modifier (m ∷ ms) (some r.modified_constants None (some r.class_constants None (mark (put_constants r.class_constant r.further_class_constant cs (mark nil))) nil) nil)) f
  put_member t (Method [] reference name ps comma type b) f = some r.method_member (Some t) (put_method reference name (put_parameters ps comma (may_return type (put_method_body b nil))) nil) f
  put_member t (Method (m ∷ ms) reference name ps comma type b) f = some r.modified_member (Some t) (words r.member_modifier (m ∷ ms) (some r.modified_method None (put_method reference name (put_parameters ps comma (may_return type (put_method_body b nil))) nil) nil)) f
  put_member t (Properties ms type vs) f = some r.modified_member (Some t) (words r.member_modifier ms (some r.modified_properties None (some r.properties None (may_property_type type (put_variables vs (mark nil))) nil) nil)) f

  pub put_method_body : MayBlock → Shape → Shape
  put_method_body no_block f = some r.no_body None (mark nil) f
  put_method_body (block ss) f = some r.block_body None (in_braces (put_all ss (mark nil)) nil) f

-- ---- tops

abbrev pub may_alias : Option Token → Shape → Shape
may_alias None f = none f
may_alias (Some t) f = some r.use_alias None (mark (word t nil)) f

abbrev pub put_name : Used → Shape → Shape
put_name x f = some r.use_item None (word x.name (may_alias x.alias nil)) f

abbrev pub put_group_item : Used → Shape → Shape
put_group_item x f = some r.group_item None (may_word r.use_kind x.kind (put_name x nil)) f

-- Outside of braces an item has no kind.
abbrev pub put_item_by : Option Token → Used → Shape → Shape
put_item_by None x f = put_name x f
put_item_by (Some t) x f = put_group_item x f

abbrev pub put_item : Used → Shape → Shape
put_item x f = put_item_by x.kind x f

abbrev pub further_items : r.Rule → (Used → Shape → Shape) → List Used → Shape → Shape
further_items r put_one [] f = none f
further_items r put_one (x ∷ xs) f = some r None (mark (put_one x nil)) (further_items r put_one xs f)

abbrev pub first_items : r.Rule → (Used → Shape → Shape) → List Used → Shape → Shape
first_items r put_one [] f = none f
first_items r put_one (x ∷ xs) f = put_one x (further_items r put_one xs f)

abbrev pub first_of : Statement → Token
first_of (node t f) = t

abbrev mutual
  pub put_top : Top → Shape → Shape
  put_top (Namespace t name end) f = some r.namespace_statement (Some t) (mark (word name (word end nil))) f
  put_top (NamespaceBlock t name xs) f = some r.namespace_block (Some t) (mark (may_word r.namespace_name name (some r.tops None (mark (put_tops xs (mark nil))) nil))) f
  put_top (Use t kind xs end) f = some r.use_declaration (Some t) (mark (may_word r.use_kind kind (some r.use_list None (first_items r.further_use_item put_item xs (word end nil)) nil))) f
  put_top (UseGroup t kind name xs comma end) f = some r.use_declaration (Some t) (mark (may_word r.use_kind kind (some r.use_group None (word name (mark (some r.group_items None
      (mark (first_items r.further_group_item put_group_item xs (list_end r.group_end r.comma_group_end comma nil))) (word end nil)))) nil))) f
  put_top (Plain s) f = some r.top_statement (Some (first_of s)) (put s nil) f

  pub put_tops : Tops → Shape → Shape
  put_tops no_top f = none f
  put_tops (top x xs) f = put_top x (put_tops xs f)
