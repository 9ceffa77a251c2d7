-- What is put of statements, declarations and files is put of one tree alone.
use Rattle.std.proofs.Common.{◌≡◌, ℕ, Bool, true, false, List, [], ◌∷◌, Option, Some, None, refl, sym, ap, ◌∙◌, arith}
use Rattle.stan_model_grammar.specs.declared.token.Token.{Token}
use Rattle.stan_model_grammar.specs.Sites.{HeldBody}
use Rattle.stan_model_grammar.specs.Trees.{Tree, TypeTree}
use Rattle.stan_model_statements.specs.Rules as r
use Rattle.stan_model_statements.specs.Trees.{Adaptation, Value, value, Bodies, no_body, body, MayValue, no_value, some_value, Values, no_more_value, more_value, Statement, node, Form, Block, Empty, Expression, Echo, Return, If, While, Do, For, ForEach, Switch, Break, Continue, Try, Unset, Global, Static, Const, Declare, Function, Class, Interface, Trait, Statements, no_statement, statement, MayStatement, no_else, else, MayBlock, no_block, block, ElseIfs, no_else_if, else_if, Cases, no_case, case, Catches, no_catch, catch, Variables, no_variable, variable, Constants, no_constant, constant, Parameters, no_parameter, parameter, Members, no_member, member, Member, TraitUse, ClassConstants, Method, Properties, Used, Top, Namespace, NamespaceBlock, Use, UseGroup, Plain, Tops, no_top, top}
use Rattle.stan_model_files.specs.Shapes as shapes
use Rattle.stan_model_files.specs.Shapes.{Shape, nil, mark, word, expr, none, some}
use Rattle.stan_model_files.specs.Put as p
use Rattle.stan_file_law.proofs.Parts.{same_flag, same_may_word, same_words, same_first_words, same_list_end, same_names, same_may_names, same_may_extend, same_may_type, same_may_return, same_property_type, same_use_end, same_item, same_group_item, item_stands, group_item_stands, same_first_items}

-- ---- the parts of what is put

module _ where
  mark_is : {f g : Shape} → mark f ≡ mark g → f ≡ g
  mark_is h = cc

  word_is : {t u : Token} {f g : Shape} → word t f ≡ word u g → (t ≡ u) × (f ≡ g)
  word_is h = (cc, cc)

  -- a part with its first token, and one without
  part_is : {r q : r.Rule} {t u : Token} {d e f g : Shape} → some r (Some t) d f ≡ some q (Some u) e g → (t ≡ u) × (d ≡ e) × (f ≡ g)
  part_is h = (cc, cc, cc)

  inner_is : {r q : r.Rule} {d e f g : Shape} → some r None d f ≡ some q None e g → (d ≡ e) × (f ≡ g)
  inner_is h = (cc, cc)

  expr_is : {a b : Tree} {bs cs : shapes.Bodies} {f g : Shape} → expr a bs f ≡ expr b cs g → (a ≡ b) × (bs ≡ cs) × (f ≡ g)
  expr_is h = (cc, cc, cc)

  body_is : {a b : HeldBody} {f g : Shape} {bs cs : shapes.Bodies} → shapes.body a f bs ≡ shapes.body b g cs → (a ≡ b) × (f ≡ g) × (bs ≡ cs)
  body_is h = (cc, cc, cc)

  no_bodies : {a : HeldBody} {f : Shape} {bs : shapes.Bodies} → shapes.no_body ≡ shapes.body a f bs → ⊥
  no_bodies h = cc

  lacks : {r : r.Rule} {t : Option Token} {d f g : Shape} → some r t d f ≡ none g → ⊥
  lacks h = cc

  lacking : {f g : Shape} → none f ≡ none g → f ≡ g
  lacking h = cc

  no_expr : {e : Tree} {bs : shapes.Bodies} {f g : Shape} → expr e bs f ≡ none g → ⊥
  no_expr h = cc

  no_word : {t : Token} {f g : Shape} → word t f ≡ none g → ⊥
  no_word h = cc

-- ---- equal parts give equal trees

module _ where
  equal-value : {x0 y0 : Tree} {x1 y1 : Bodies} → x0 ≡ y0 → x1 ≡ y1 → value x0 x1 ≡ value y0 y1
  equal-value e0 e1 = cc

  equal-body : {x0 y0 : HeldBody} {x1 y1 : Statements} {x2 y2 : Bodies} → x0 ≡ y0 → x1 ≡ y1 → x2 ≡ y2 → body x0 x1 x2 ≡ body y0 y1 y2
  equal-body e0 e1 e2 = cc

  equal-more_value : {x0 y0 : Value} {x1 y1 : Values} → x0 ≡ y0 → x1 ≡ y1 → more_value x0 x1 ≡ more_value y0 y1
  equal-more_value e0 e1 = cc

  equal-node : {x0 y0 : Token} {x1 y1 : Form} → x0 ≡ y0 → x1 ≡ y1 → node x0 x1 ≡ node y0 y1
  equal-node e0 e1 = cc

  equal-Expression : {x0 y0 : Value} {x1 y1 : Token} → x0 ≡ y0 → x1 ≡ y1 → Expression x0 x1 ≡ Expression y0 y1
  equal-Expression e0 e1 = cc

  equal-Echo : {x0 y0 : Values} {x1 y1 : Token} → x0 ≡ y0 → x1 ≡ y1 → Echo x0 x1 ≡ Echo y0 y1
  equal-Echo e0 e1 = cc

  equal-Return : {x0 y0 : MayValue} {x1 y1 : Token} → x0 ≡ y0 → x1 ≡ y1 → Return x0 x1 ≡ Return y0 y1
  equal-Return e0 e1 = cc

  equal-If : {x0 y0 : Value} {x1 y1 : Statement} {x2 y2 : ElseIfs} {x3 y3 : MayStatement} → x0 ≡ y0 → x1 ≡ y1 → x2 ≡ y2 → x3 ≡ y3 → If x0 x1 x2 x3 ≡ If y0 y1 y2 y3
  equal-If e0 e1 e2 e3 = cc

  equal-While : {x0 y0 : Value} {x1 y1 : Statement} → x0 ≡ y0 → x1 ≡ y1 → While x0 x1 ≡ While y0 y1
  equal-While e0 e1 = cc

  equal-Do : {x0 y0 : Statement} {x1 y1 : Value} {x2 y2 : Token} → x0 ≡ y0 → x1 ≡ y1 → x2 ≡ y2 → Do x0 x1 x2 ≡ Do y0 y1 y2
  equal-Do e0 e1 e2 = cc

  equal-For : {x0 y0 : Values} {x1 y1 : Values} {x2 y2 : Values} {x3 y3 : Statement} → x0 ≡ y0 → x1 ≡ y1 → x2 ≡ y2 → x3 ≡ y3 → For x0 x1 x2 x3 ≡ For y0 y1 y2 y3
  equal-For e0 e1 e2 e3 = cc

  equal-ForEach : {x0 y0 : Value} {x1 y1 : MayValue} {x2 y2 : Bool} {x3 y3 : Value} {x4 y4 : Statement} → x0 ≡ y0 → x1 ≡ y1 → x2 ≡ y2 → x3 ≡ y3 → x4 ≡ y4 → ForEach x0 x1 x2 x3 x4 ≡ ForEach y0 y1 y2 y3 y4
  equal-ForEach e0 e1 e2 e3 e4 = cc

  equal-Switch : {x0 y0 : Value} {x1 y1 : Cases} → x0 ≡ y0 → x1 ≡ y1 → Switch x0 x1 ≡ Switch y0 y1
  equal-Switch e0 e1 = cc

  equal-Break : {x0 y0 : Option Token} {x1 y1 : Token} → x0 ≡ y0 → x1 ≡ y1 → Break x0 x1 ≡ Break y0 y1
  equal-Break e0 e1 = cc

  equal-Continue : {x0 y0 : Option Token} {x1 y1 : Token} → x0 ≡ y0 → x1 ≡ y1 → Continue x0 x1 ≡ Continue y0 y1
  equal-Continue e0 e1 = cc

  equal-Try : {x0 y0 : Statements} {x1 y1 : Catches} {x2 y2 : MayBlock} → x0 ≡ y0 → x1 ≡ y1 → x2 ≡ y2 → Try x0 x1 x2 ≡ Try y0 y1 y2
  equal-Try e0 e1 e2 = cc

  equal-Unset : {x0 y0 : Values} {x1 y1 : Bool} {x2 y2 : Token} → x0 ≡ y0 → x1 ≡ y1 → x2 ≡ y2 → Unset x0 x1 x2 ≡ Unset y0 y1 y2
  equal-Unset e0 e1 e2 = cc

  equal-Global : {x0 y0 : List Token} {x1 y1 : Token} → x0 ≡ y0 → x1 ≡ y1 → Global x0 x1 ≡ Global y0 y1
  equal-Global e0 e1 = cc

  equal-Static : {x0 y0 : Variables} {x1 y1 : Token} → x0 ≡ y0 → x1 ≡ y1 → Static x0 x1 ≡ Static y0 y1
  equal-Static e0 e1 = cc

  equal-Const : {x0 y0 : Constants} {x1 y1 : Token} → x0 ≡ y0 → x1 ≡ y1 → Const x0 x1 ≡ Const y0 y1
  equal-Const e0 e1 = cc

  equal-Declare : {x0 y0 : Token} {x1 y1 : Token} {x2 y2 : Token} → x0 ≡ y0 → x1 ≡ y1 → x2 ≡ y2 → Declare x0 x1 x2 ≡ Declare y0 y1 y2
  equal-Declare e0 e1 e2 = cc

  equal-Function : {x0 y0 : Bool} {x1 y1 : Token} {x2 y2 : Parameters} {x3 y3 : Bool} {x4 y4 : Option TypeTree} {x5 y5 : Statements} → x0 ≡ y0 → x1 ≡ y1 → x2 ≡ y2 → x3 ≡ y3 → x4 ≡ y4 → x5 ≡ y5 → Function x0 x1 x2 x3 x4 x5 ≡ Function y0 y1 y2 y3 y4 y5
  equal-Function e0 e1 e2 e3 e4 e5 = cc

  equal-Class : {x0 y0 : List Token} {x1 y1 : Token} {x2 y2 : Option Token} {x3 y3 : List Token} {x4 y4 : Members} → x0 ≡ y0 → x1 ≡ y1 → x2 ≡ y2 → x3 ≡ y3 → x4 ≡ y4 → Class x0 x1 x2 x3 x4 ≡ Class y0 y1 y2 y3 y4
  equal-Class e0 e1 e2 e3 e4 = cc

  equal-Interface : {x0 y0 : Token} {x1 y1 : List Token} {x2 y2 : Members} → x0 ≡ y0 → x1 ≡ y1 → x2 ≡ y2 → Interface x0 x1 x2 ≡ Interface y0 y1 y2
  equal-Interface e0 e1 e2 = cc

  equal-Trait : {x0 y0 : Token} {x1 y1 : Members} → x0 ≡ y0 → x1 ≡ y1 → Trait x0 x1 ≡ Trait y0 y1
  equal-Trait e0 e1 = cc

  equal-statement : {x0 y0 : Statement} {x1 y1 : Statements} → x0 ≡ y0 → x1 ≡ y1 → statement x0 x1 ≡ statement y0 y1
  equal-statement e0 e1 = cc

  equal-else_if : {x0 y0 : Token} {x1 y1 : Value} {x2 y2 : Statement} {x3 y3 : ElseIfs} → x0 ≡ y0 → x1 ≡ y1 → x2 ≡ y2 → x3 ≡ y3 → else_if x0 x1 x2 x3 ≡ else_if y0 y1 y2 y3
  equal-else_if e0 e1 e2 e3 = cc

  equal-case : {x0 y0 : Token} {x1 y1 : MayValue} {x2 y2 : Token} {x3 y3 : Statements} {x4 y4 : Cases} → x0 ≡ y0 → x1 ≡ y1 → x2 ≡ y2 → x3 ≡ y3 → x4 ≡ y4 → case x0 x1 x2 x3 x4 ≡ case y0 y1 y2 y3 y4
  equal-case e0 e1 e2 e3 e4 = cc

  equal-catch : {x0 y0 : Token} {x1 y1 : List Token} {x2 y2 : Option Token} {x3 y3 : Statements} {x4 y4 : Catches} → x0 ≡ y0 → x1 ≡ y1 → x2 ≡ y2 → x3 ≡ y3 → x4 ≡ y4 → catch x0 x1 x2 x3 x4 ≡ catch y0 y1 y2 y3 y4
  equal-catch e0 e1 e2 e3 e4 = cc

  equal-variable : {x0 y0 : Token} {x1 y1 : MayValue} {x2 y2 : Variables} → x0 ≡ y0 → x1 ≡ y1 → x2 ≡ y2 → variable x0 x1 x2 ≡ variable y0 y1 y2
  equal-variable e0 e1 e2 = cc

  equal-constant : {x0 y0 : Token} {x1 y1 : Value} {x2 y2 : Constants} → x0 ≡ y0 → x1 ≡ y1 → x2 ≡ y2 → constant x0 x1 x2 ≡ constant y0 y1 y2
  equal-constant e0 e1 e2 = cc

  equal-parameter : {x0 y0 : Token} {x1 y1 : Option Token} {x2 y2 : Option TypeTree} {x3 y3 : Bool} {x4 y4 : Bool} {x5 y5 : Token} {x6 y6 : MayValue} {x7 y7 : Parameters} → x0 ≡ y0 → x1 ≡ y1 → x2 ≡ y2 → x3 ≡ y3 → x4 ≡ y4 → x5 ≡ y5 → x6 ≡ y6 → x7 ≡ y7 → parameter x0 x1 x2 x3 x4 x5 x6 x7 ≡ parameter y0 y1 y2 y3 y4 y5 y6 y7
  equal-parameter e0 e1 e2 e3 e4 e5 e6 e7 = cc

  equal-member : {x0 y0 : Token} {x1 y1 : Member} {x2 y2 : Members} → x0 ≡ y0 → x1 ≡ y1 → x2 ≡ y2 → member x0 x1 x2 ≡ member y0 y1 y2
  equal-member e0 e1 e2 = cc

  equal-TraitUse : {x0 y0 : List Token} {x1 y1 : Option (List Adaptation)} → x0 ≡ y0 → x1 ≡ y1 → TraitUse x0 x1 ≡ TraitUse y0 y1
  equal-TraitUse e0 e1 = cc

  equal-ClassConstants : {x0 y0 : List Token} {x1 y1 : Constants} → x0 ≡ y0 → x1 ≡ y1 → ClassConstants x0 x1 ≡ ClassConstants y0 y1
  equal-ClassConstants e0 e1 = cc

  equal-Method : {x0 y0 : List Token} {x1 y1 : Bool} {x2 y2 : Token} {x3 y3 : Parameters} {x4 y4 : Bool} {x5 y5 : Option TypeTree} {x6 y6 : MayBlock} → x0 ≡ y0 → x1 ≡ y1 → x2 ≡ y2 → x3 ≡ y3 → x4 ≡ y4 → x5 ≡ y5 → x6 ≡ y6 → Method x0 x1 x2 x3 x4 x5 x6 ≡ Method y0 y1 y2 y3 y4 y5 y6
  equal-Method e0 e1 e2 e3 e4 e5 e6 = cc

  equal-Properties : {x0 y0 : List Token} {x1 y1 : Option TypeTree} {x2 y2 : Variables} → x0 ≡ y0 → x1 ≡ y1 → x2 ≡ y2 → Properties x0 x1 x2 ≡ Properties y0 y1 y2
  equal-Properties e0 e1 e2 = cc

-- ---- which production stands

module _ where
  form_number : Form → ℕ
  form_number (Block ss) = 0
  form_number (Empty end) = 1
  form_number (Expression v end) = 2
  form_number (Echo vs end) = 3
  form_number (Return v end) = 4
  form_number (If v s es o) = 5
  form_number (While v s) = 6
  form_number (Do s v end) = 7
  form_number (For vs us ws s) = 8
  form_number (ForEach v key reference element s) = 9
  form_number (Switch v cs) = 10
  form_number (Break levels end) = 11
  form_number (Continue levels end) = 12
  form_number (Try ss cs b) = 13
  form_number (Unset vs comma end) = 14
  form_number (Global ts end) = 15
  form_number (Static vs end) = 16
  form_number (Const cs end) = 17
  form_number (Declare name number end) = 18
  form_number (Function reference name ps comma type ss) = 19
  form_number (Class modifiers name parent interfaces ms) = 20
  form_number (Interface name parents ms) = 21
  form_number (Trait name ms) = 22

  rule_number : r.Rule → ℕ
  rule_number r.block_statement = 0
  rule_number r.empty_statement = 1
  rule_number r.expression_statement = 2
  rule_number r.echo_statement = 3
  rule_number r.return_statement = 4
  rule_number r.if_statement = 5
  rule_number r.while_statement = 6
  rule_number r.do_statement = 7
  rule_number r.for_statement = 8
  rule_number r.for_each_statement = 9
  rule_number r.switch_statement = 10
  rule_number r.break_statement = 11
  rule_number r.continue_statement = 12
  rule_number r.try_statement = 13
  rule_number r.unset_statement = 14
  rule_number r.global_statement = 15
  rule_number r.static_statement = 16
  rule_number r.const_statement = 17
  rule_number r.declare_statement = 18
  rule_number r.function_statement = 19
  rule_number r.class_statement = 20
  rule_number r.interface_statement = 21
  rule_number r.trait_statement = 22
  rule_number _ = 23

  number : Shape → ℕ
  number (some r t d f) = rule_number r
  number _ = 24

  numbered : (t : Token) (x : Form) (f : Shape) → number (p.put_form t x f) ≡ form_number x
  unfolding form_number number rule_number
  numbered t (Block ss) f = refl
  numbered t (Empty end) f = refl
  numbered t (Expression v end) f = refl
  numbered t (Echo vs end) f = refl
  numbered t (Return v end) f = refl
  numbered t (If v s es o) f = refl
  numbered t (While v s) f = refl
  numbered t (Do s v end) f = refl
  numbered t (For vs us ws s) f = refl
  numbered t (ForEach v key reference element s) f = refl
  numbered t (Switch v cs) f = refl
  numbered t (Break levels end) f = refl
  numbered t (Continue levels end) f = refl
  numbered t (Try ss cs b) f = refl
  numbered t (Unset vs comma end) f = refl
  numbered t (Global ts end) f = refl
  numbered t (Static vs end) f = refl
  numbered t (Const cs end) f = refl
  numbered t (Declare name number end) f = refl
  numbered t (Function reference name ps comma type ss) f = refl
  numbered t (Class modifiers name parent interfaces ms) f = refl
  numbered t (Interface name parents ms) f = refl
  numbered t (Trait name ms) f = refl

  numbers_agree : (t u : Token) (x y : Form) (f g : Shape) → p.put_form t x f ≡ p.put_form u y g → form_number x ≡ form_number y
  numbers_agree t u x y f g h = sym (numbered t x f) ∙ ap number h ∙ numbered u y g

  form_stands : (t : Token) (x : Form) (f g : Shape) → p.put_form t x f ≡ none g → ⊥
  form_stands t (Block ss) f g h = lacks h
  form_stands t (Empty end) f g h = lacks h
  form_stands t (Expression v end) f g h = lacks h
  form_stands t (Echo vs end) f g h = lacks h
  form_stands t (Return v end) f g h = lacks h
  form_stands t (If v s es o) f g h = lacks h
  form_stands t (While v s) f g h = lacks h
  form_stands t (Do s v end) f g h = lacks h
  form_stands t (For vs us ws s) f g h = lacks h
  form_stands t (ForEach v key reference element s) f g h = lacks h
  form_stands t (Switch v cs) f g h = lacks h
  form_stands t (Break levels end) f g h = lacks h
  form_stands t (Continue levels end) f g h = lacks h
  form_stands t (Try ss cs b) f g h = lacks h
  form_stands t (Unset vs comma end) f g h = lacks h
  form_stands t (Global ts end) f g h = lacks h
  form_stands t (Static vs end) f g h = lacks h
  form_stands t (Const cs end) f g h = lacks h
  form_stands t (Declare name number end) f g h = lacks h
  form_stands t (Function reference name ps comma type ss) f g h = lacks h
  form_stands t (Class modifiers name parent interfaces ms) f g h = lacks h
  form_stands t (Interface name parents ms) f g h = lacks h
  form_stands t (Trait name ms) f g h = lacks h

module _ where
  reference_is_no_value : {d e f g : Shape} → some r.reference_target None d f ≡ some r.value_target None e g → ⊥
  reference_is_no_value h = cc

  reference_is_no_key : {d e f g : Shape} → some r.reference_target None d f ≡ some r.keyed_target None e g → ⊥
  reference_is_no_key h = cc

  value_is_no_key : {d e f g : Shape} → some r.value_target None d f ≡ some r.keyed_target None e g → ⊥
  value_is_no_key h = cc

  default_is_no_case : {t u : Token} {d e f g : Shape} → some r.default_part (Some t) d f ≡ some r.case_part (Some u) e g → ⊥
  default_is_no_case h = cc

  only_finally_is_no_catches : {d e f g : Shape} → some r.only_finally None d f ≡ some r.catches None e g → ⊥
  only_finally_is_no_catches h = cc

  no_parameters_are_none : {d e f g : Shape} → some r.no_parameters None d f ≡ some r.parameters None e g → ⊥
  no_parameters_are_none h = cc

  no_comma : {f g : Shape} → some r.no_parameters None (mark (none nil)) f ≡ some r.no_parameters None (mark (mark nil)) g → ⊥
  no_comma h = cc

  no_body_is_no_block : {d e f g : Shape} → some r.no_body None d f ≡ some r.block_body None e g → ⊥
  no_body_is_no_block h = cc

  -- which production of a member stands, and behind its modifiers
  member_number : Member → ℕ
  member_number (TraitUse names end) = 0
  member_number (ClassConstants [] cs) = 1
  member_number (ClassConstants (m ∷ ms) cs) = 2
  member_number (Method [] reference name ps comma type b) = 3
  member_number (Method (m ∷ ms) reference name ps comma type b) = 4
  member_number (Properties ms type vs) = 5

  production_number : r.Rule → ℕ → ℕ
  production_number r.trait_use n = 0
  production_number r.constants_member n = 1
  production_number r.method_member n = 3
  production_number r.modified_constants n = 2
  production_number r.modified_method n = 4
  production_number r.modified_properties n = 5
  production_number r.modified_member n = n
  production_number r.member_modifier n = n
  production_number _ n = 6

  -- of a member by its own production, or by what stands behind its modifiers
  modified_number : Shape → ℕ
  modified_number (none f) = modified_number f
  modified_number (some r t d f) = production_number r (modified_number f)
  modified_number _ = 7

  shape_number : Shape → ℕ
  shape_number (some r t d f) = production_number r (modified_number d)
  shape_number _ = 7

  behind_words : (ms : List Token) (f : Shape) → modified_number (p.words r.member_modifier ms f) ≡ modified_number f
  unfolding modified_number production_number
  behind_words [] f = refl
  behind_words (m ∷ ms) f = behind_words ms f

  member_numbered : (t : Token) (x : Member) (f : Shape) → shape_number (p.put_member t x f) ≡ member_number x
  unfolding shape_number modified_number production_number member_number
  member_numbered t (TraitUse names end) f = refl
  member_numbered t (ClassConstants [] cs) f = refl
  member_numbered t (ClassConstants (m ∷ ms) cs) f = behind_words ms (some r.modified_constants None (some r.class_constants None (mark (p.put_constants r.class_constant r.further_class_constant cs (mark nil))) nil) nil)
  member_numbered t (Method [] reference name ps comma type b) f = refl
  member_numbered t (Method (m ∷ ms) reference name ps comma type b) f = behind_words ms (some r.modified_method None (p.put_method reference name (p.put_parameters ps comma (p.may_return type (p.put_method_body b nil))) nil) nil)
  member_numbered t (Properties ms type vs) f = behind_words ms (some r.modified_properties None (some r.properties None (p.may_property_type type (p.put_variables vs (mark nil))) nil) nil)

  members_agree : (t u : Token) (x y : Member) (f g : Shape) → p.put_member t x f ≡ p.put_member u y g → member_number x ≡ member_number y
  members_agree t u x y f g h = sym (member_numbered t x f) ∙ ap shape_number h ∙ member_numbered u y g

  member_stands : (t : Token) (x : Member) (f g : Shape) → p.put_member t x f ≡ none g → ⊥
  member_stands t (TraitUse names end) f g h = lacks h
  member_stands t (ClassConstants [] cs) f g h = lacks h
  member_stands t (ClassConstants (m ∷ ms) cs) f g h = lacks h
  member_stands t (Method [] reference name ps comma type b) f g h = lacks h
  member_stands t (Method (m ∷ ms) reference name ps comma type b) f g h = lacks h
  member_stands t (Properties ms type vs) f g h = lacks h

  record SameParameter (t u : Token) (a b : Option Token) (x y : Option TypeTree) (c d v w : Bool) (n m : Token) (e e2 f g : Shape) : Type 0 where
    first : t ≡ u
    visibility : a ≡ b
    type : x ≡ y
    reference : c ≡ d
    variadic : v ≡ w
    name : n ≡ m
    value : e ≡ e2
    rest : f ≡ g

  same_parameter : (t u : Token) (a b : Option Token) (x y : Option TypeTree) (c d v w : Bool) (n m : Token) (e e2 f g : Shape)
      → p.put_parameter t a x c v n e f ≡ p.put_parameter u b y d w m e2 g → SameParameter t u a b x y c d v w n m e e2 f g
  same_parameter t u a b x y c d v w n m e e2 f g h =
      let i : p.may_word r.visible a (p.may_type x (p.flag r.by_reference c (p.flag r.variadic v (word n e)))) ≡ p.may_word r.visible b (p.may_type y (p.flag r.by_reference d (p.flag r.variadic w (word m e2)))) = cc in
      let j = same_may_word r.visible a b (p.may_type x (p.flag r.by_reference c (p.flag r.variadic v (word n e)))) (p.may_type y (p.flag r.by_reference d (p.flag r.variadic w (word m e2)))) i in
      let k = same_may_type x y (p.flag r.by_reference c (p.flag r.variadic v (word n e))) (p.flag r.by_reference d (p.flag r.variadic w (word m e2))) j.1 in
      let l = same_flag r.by_reference c d (p.flag r.variadic v (word n e)) (p.flag r.variadic w (word m e2)) k.1 in
      let o = same_flag r.variadic v w (word n e) (word m e2) l.1 in
      let q = o.1 in record { first = cc; visibility = j.0; type = k.0; reference = l.0; variadic = o.0; name = cc; value = cc; rest = cc }

  same_method : (a b : Bool) (n m : Token) (d e f g : Shape) → p.put_method a n d f ≡ p.put_method b m e g → (a ≡ b) × (n ≡ m) × (d ≡ e)
  same_method a b n m d e f g h =
      let i : p.flag r.by_reference a (word n d) ≡ p.flag r.by_reference b (word m e) = cc in
      let j = same_flag r.by_reference a b (word n d) (word m e) i in let j1 = j.1 in (j.0, cc, cc)

  record SameCatch (t u : Token) (ts us : List Token) (a b : Option Token) (d e f g : Shape) : Type 0 where
    first : t ≡ u
    classes : ts ≡ us
    variable : a ≡ b
    block : d ≡ e
    rest : f ≡ g

  same_catch : (t u : Token) (ts us : List Token) (a b : Option Token) (d e f g : Shape) → p.put_catch t ts a d f ≡ p.put_catch u us b e g → SameCatch t u ts us a b d e f g
  same_catch t u ts us a b d e f g h =
      let i : p.first_words r.further_class ts (p.may_word r.catch_variable a (mark nil)) ≡ p.first_words r.further_class us (p.may_word r.catch_variable b (mark nil)) = cc in
      let x = same_first_words r.further_class ts us (p.may_word r.catch_variable a (mark nil)) (p.may_word r.catch_variable b (mark nil)) i in
      record { first = cc; classes = x.0; variable = (same_may_word r.catch_variable a b (mark nil) (mark nil) x.1).0; block = cc; rest = cc }

mutual
  unfolding form_number member_number

  pub same_value : (x y : Value) (f g : Shape) → p.put_value x f ≡ p.put_value y g → (x ≡ y) × (f ≡ g)
  same_value (value e bs) (value d cs) f g h = let a = expr_is h in (equal-value a.0 (same_bodies bs cs a.1), a.2)

  pub same_bodies : (x y : Bodies) → p.put_bodies x ≡ p.put_bodies y → x ≡ y
  same_bodies no_body no_body h = refl
  same_bodies (body a ss bs) (body b us cs) h = let i = body_is h in equal-body i.0 (same_all ss us (mark nil) (mark nil) i.1).0 (same_bodies bs cs i.2)
  same_bodies no_body (body b us cs) h = absurd (no_bodies h)
  same_bodies (body a ss bs) no_body h = absurd (no_bodies (sym h))

  pub same_may_return_value : (x y : MayValue) (f g : Shape) → p.may_return_value x f ≡ p.may_return_value y g → (x ≡ y) × (f ≡ g)
  same_may_return_value no_value no_value f g h = (refl, lacking h)
  same_may_return_value (some_value v) (some_value u) f g h = let a = inner_is h in (ap some_value (same_value v u nil nil a.0).0, a.1)
  same_may_return_value no_value (some_value u) f g h = absurd (lacks (sym h))
  same_may_return_value (some_value v) no_value f g h = absurd (lacks h)

  pub same_default : (x y : MayValue) (f g : Shape) → p.put_default x f ≡ p.put_default y g → (x ≡ y) × (f ≡ g)
  same_default no_value no_value f g h = (refl, lacking h)
  same_default (some_value v) (some_value u) f g h = let a = inner_is h in (ap some_value (same_value v u nil nil (mark_is a.0)).0, a.1)
  same_default no_value (some_value u) f g h = absurd (lacks (sym h))
  same_default (some_value v) no_value f g h = absurd (lacks h)

  pub same_further_values : (r : r.Rule) (x y : Values) (f g : Shape) → p.further_values r x f ≡ p.further_values r y g → (x ≡ y) × (f ≡ g)
  same_further_values r no_more_value no_more_value f g h = (refl, lacking h)
  same_further_values r (more_value v vs) (more_value u us) f g h =
      let a = inner_is h in let b = same_further_values r vs us f g a.1 in (equal-more_value (same_value v u nil nil (mark_is a.0)).0 b.0, b.1)
  same_further_values r no_more_value (more_value u us) f g h = absurd (lacks (sym h))
  same_further_values r (more_value v vs) no_more_value f g h = absurd (lacks h)

  pub same_first_values : (r : r.Rule) (x y : Values) (f g : Shape) → p.first_values r x f ≡ p.first_values r y g → (x ≡ y) × (f ≡ g)
  same_first_values r no_more_value no_more_value f g h = (refl, lacking h)
  same_first_values r (more_value v vs) (more_value u us) f g h =
      let a = same_value v u (p.further_values r vs f) (p.further_values r us g) h in let b = same_further_values r vs us f g a.1 in (equal-more_value a.0 b.0, b.1)
  same_first_values r no_more_value (more_value (value e bs) us) f g h = absurd (no_expr (sym h))
  same_first_values r (more_value (value e bs) vs) no_more_value f g h = absurd (no_expr h)

  pub same_may_values : (x y : Values) (f g : Shape) → p.may_values x f ≡ p.may_values y g → (x ≡ y) × (f ≡ g)
  same_may_values no_more_value no_more_value f g h = (refl, lacking h)
  same_may_values (more_value v vs) (more_value u us) f g h =
      let c = inner_is h in let a = same_value v u (p.further_values r.further_expression vs nil) (p.further_values r.further_expression us nil) c.0 in
      (equal-more_value a.0 (same_further_values r.further_expression vs us nil nil a.1).0, c.1)
  same_may_values no_more_value (more_value u us) f g h = absurd (lacks (sym h))
  same_may_values (more_value v vs) no_more_value f g h = absurd (lacks h)

  pub same : (x y : Statement) (f g : Shape) → p.put x f ≡ p.put y g → (x ≡ y) × (f ≡ g)
  same (node t x) (node u y) f g h = let a = same_form t u x y f g h in (equal-node a.0 a.1, a.2)

  pub same_form : (t u : Token) (x y : Form) (f g : Shape) → p.put_form t x f ≡ p.put_form u y g → (t ≡ u) × (x ≡ y) × (f ≡ g)
  same_form t u (Block ss) (Block ss2) f g h = let a = part_is h in (a.0, ap Block (same_all ss ss2 (mark nil) (mark nil) (mark_is (inner_is a.1).0)).0, a.2)
  same_form t u (Empty end) (Empty end2) f g h = let a = part_is h in (a.0, ap Empty (word_is a.1).0, a.2)
  same_form t u (Expression v end) (Expression v2 end2) f g h =
      let a = part_is h in let b = same_value v v2 (word end nil) (word end2 nil) a.1 in (a.0, equal-Expression b.0 (word_is b.1).0, a.2)
  same_form t u (Echo vs end) (Echo vs2 end2) f g h =
      let a = part_is h in let b = same_may_values vs vs2 (word end nil) (word end2 nil) (mark_is a.1) in (a.0, equal-Echo b.0 (word_is b.1).0, a.2)
  same_form t u (Return v end) (Return v2 end2) f g h =
      let a = part_is h in let b = same_may_return_value v v2 (word end nil) (word end2 nil) (mark_is a.1) in (a.0, equal-Return b.0 (word_is b.1).0, a.2)
  same_form t u (If v s es o) (If v2 s2 es2 o2) f g h =
      let a = part_is h in let c = inner_is (mark_is a.1) in let d = same_value v v2 (mark nil) (mark nil) (mark_is c.0) in
      let e = same s s2 (p.put_else_ifs es (p.put_else o nil)) (p.put_else_ifs es2 (p.put_else o2 nil)) c.1 in
      let i = same_else_ifs es es2 (p.put_else o nil) (p.put_else o2 nil) e.1 in (a.0, equal-If d.0 e.0 i.0 (same_else o o2 nil nil i.1).0, a.2)
  same_form t u (While v s) (While v2 s2) f g h =
      let a = part_is h in let c = inner_is (mark_is a.1) in (a.0, equal-While (same_value v v2 (mark nil) (mark nil) (mark_is c.0)).0 (same s s2 nil nil c.1).0, a.2)
  same_form t u (Do s v end) (Do s2 v2 end2) f g h =
      let a = part_is h in let b = same s s2 (mark (p.in_brackets (p.put_value v (mark nil)) (word end nil))) (mark (p.in_brackets (p.put_value v2 (mark nil)) (word end2 nil))) (mark_is a.1) in
      let c = inner_is (mark_is b.1) in (a.0, equal-Do b.0 (same_value v v2 (mark nil) (mark nil) (mark_is c.0)).0 (word_is c.1).0, a.2)
  same_form t u (For vs us ws s) (For vs2 us2 ws2 s2) f g h =
      let a = part_is h in let b = inner_is (mark_is a.1) in
      let c = same_may_values vs vs2 (mark (p.may_values us (mark (p.may_values ws (mark nil))))) (mark (p.may_values us2 (mark (p.may_values ws2 (mark nil))))) (mark_is b.0) in
      let d = same_may_values us us2 (mark (p.may_values ws (mark nil))) (mark (p.may_values ws2 (mark nil))) (mark_is c.1) in
      let e = same_may_values ws ws2 (mark nil) (mark nil) (mark_is d.1) in (a.0, equal-For c.0 d.0 e.0 (same s s2 nil nil b.1).0, a.2)
  same_form t u (ForEach v key reference element s) (ForEach v2 key2 reference2 element2 s2) f g h =
      let a = part_is h in let b = inner_is (mark_is a.1) in
      let c = same_value v v2 (mark (p.put_target key reference (p.put_value element (mark nil)) nil)) (mark (p.put_target key2 reference2 (p.put_value element2 (mark nil)) nil)) (mark_is b.0) in
      let d = same_target key key2 reference reference2 (p.put_value element (mark nil)) (p.put_value element2 (mark nil)) nil nil (mark_is c.1) in
      (a.0, equal-ForEach c.0 d.0 d.1 (same_value element element2 (mark nil) (mark nil) d.2).0 (same s s2 nil nil b.1).0, a.2)
  same_form t u (Switch v cs) (Switch v2 cs2) f g h =
      let a = part_is h in let b = inner_is (mark_is a.1) in
      (a.0, equal-Switch (same_value v v2 (mark nil) (mark nil) (mark_is b.0)).0 (same_cases cs cs2 (mark nil) (mark nil) (mark_is (inner_is b.1).0)).0, a.2)
  same_form t u (Break levels end) (Break levels2 end2) f g h =
      let a = part_is h in let b = same_may_word r.levels levels levels2 (word end nil) (word end2 nil) (mark_is a.1) in (a.0, equal-Break b.0 (word_is b.1).0, a.2)
  same_form t u (Continue levels end) (Continue levels2 end2) f g h =
      let a = part_is h in let b = same_may_word r.levels levels levels2 (word end nil) (word end2 nil) (mark_is a.1) in (a.0, equal-Continue b.0 (word_is b.1).0, a.2)
  same_form t u (Try ss cs b) (Try ss2 cs2 b2) f g h =
      let a = part_is h in let c = inner_is (mark_is a.1) in let d = same_handlers cs cs2 (p.put_finally b nil) (p.put_finally b2 nil) nil nil c.1 in
      (a.0, equal-Try (same_all ss ss2 (mark nil) (mark nil) (mark_is c.0)).0 d.0 (same_finally b b2 nil nil d.1).0, a.2)
  same_form t u (Unset vs comma end) (Unset vs2 comma2 end2) f g h =
      let a = part_is h in let c = inner_is (mark_is a.1) in
      let d = same_first_values r.further_argument vs vs2 (p.list_end r.closing r.comma_closing comma nil) (p.list_end r.closing r.comma_closing comma2 nil) (mark_is c.0) in
      (a.0, equal-Unset d.0 (same_list_end r.closing r.comma_closing comma comma2 nil nil d.1).0 (word_is c.1).0, a.2)
  same_form t u (Global ts end) (Global ts2 end2) f g h =
      let a = part_is h in let b = same_first_words r.further_global ts ts2 (word end nil) (word end2 nil) (mark_is a.1) in (a.0, equal-Global b.0 (word_is b.1).0, a.2)
  same_form t u (Static vs end) (Static vs2 end2) f g h =
      let a = part_is h in let b = same_variables vs vs2 (word end nil) (word end2 nil) (mark_is a.1) in (a.0, equal-Static b.0 (word_is b.1).0, a.2)
  same_form t u (Const cs end) (Const cs2 end2) f g h =
      let a = part_is h in let b = same_constants r.constant r.further_constant cs cs2 (word end nil) (word end2 nil) (mark_is a.1) in (a.0, equal-Const b.0 (word_is b.1).0, a.2)
  same_form t u (Declare name number end) (Declare name2 number2 end2) f g h =
      let a = part_is h in let b = inner_is (mark_is a.1) in let c = word_is (mark_is b.0) in (a.0, equal-Declare c.0 (word_is (mark_is c.1)).0 (word_is b.1).0, a.2)
  same_form t u (Function reference name ps comma type ss) (Function reference2 name2 ps2 comma2 type2 ss2) f g h =
      let a = part_is h in
      let x = p.in_braces (p.put_all ss (mark nil)) nil in let y = p.in_braces (p.put_all ss2 (mark nil)) nil in
      let b = same_flag r.by_reference reference reference2 (word name (p.put_parameters ps comma (p.may_return type x))) (word name2 (p.put_parameters ps2 comma2 (p.may_return type2 y))) (mark_is a.1) in
      let c = word_is b.1 in let d = same_parameters ps ps2 comma comma2 (p.may_return type x) (p.may_return type2 y) c.1 in
      let e = same_may_return type type2 x y d.2 in
      (a.0, equal-Function b.0 c.0 d.0 d.1 e.0 (same_all ss ss2 (mark nil) (mark nil) (mark_is (inner_is e.1).0)).0, a.2)
  same_form t u (Class modifiers name parent interfaces ms) (Class modifiers2 name2 parent2 interfaces2 ms2) f g h =
      let a = part_is h in
      let x = p.class_braces (p.put_members ms (mark nil)) nil in let y = p.class_braces (p.put_members ms2 (mark nil)) nil in
      let b = same_words r.class_modifier modifiers modifiers2 (mark (word name (p.may_extend parent (p.may_names r.implements interfaces x)))) (mark (word name2 (p.may_extend parent2 (p.may_names r.implements interfaces2 y)))) a.1 in
      let c = word_is (mark_is b.1) in let d = same_may_extend parent parent2 (p.may_names r.implements interfaces x) (p.may_names r.implements interfaces2 y) c.1 in
      let e = same_may_names r.implements interfaces interfaces2 x y d.1 in
      (a.0, equal-Class b.0 c.0 d.0 e.0 (same_members ms ms2 (mark nil) (mark nil) (mark_is (inner_is e.1).0)).0, a.2)
  same_form t u (Interface name parents ms) (Interface name2 parents2 ms2) f g h =
      let a = part_is h in let c = word_is (mark_is a.1) in
      let e = same_may_names r.interface_extends parents parents2 (p.class_braces (p.put_members ms (mark nil)) nil) (p.class_braces (p.put_members ms2 (mark nil)) nil) c.1 in
      (a.0, equal-Interface c.0 e.0 (same_members ms ms2 (mark nil) (mark nil) (mark_is (inner_is e.1).0)).0, a.2)
  same_form t u (Trait name ms) (Trait name2 ms2) f g h =
      let a = part_is h in let c = word_is (mark_is a.1) in (a.0, equal-Trait c.0 (same_members ms ms2 (mark nil) (mark nil) (mark_is (inner_is c.1).0)).0, a.2)
  same_form t u x y f g h = absurd (omega (arith, numbers_agree t u x y f g h))

  pub same_all : (x y : Statements) (f g : Shape) → p.put_all x f ≡ p.put_all y g → (x ≡ y) × (f ≡ g)
  same_all no_statement no_statement f g h = (refl, lacking h)
  same_all (statement s ss) (statement u us) f g h = let a = same s u (p.put_all ss f) (p.put_all us g) h in let b = same_all ss us f g a.1 in (equal-statement a.0 b.0, b.1)
  same_all no_statement (statement (node t x) us) f g h = absurd (form_stands t x (p.put_all us g) f (sym h))
  same_all (statement (node t x) ss) no_statement f g h = absurd (form_stands t x (p.put_all ss f) g h)

  pub same_else : (x y : MayStatement) (f g : Shape) → p.put_else x f ≡ p.put_else y g → (x ≡ y) × (f ≡ g)
  same_else no_else no_else f g h = (refl, lacking h)
  same_else (else s) (else u) f g h = let a = inner_is h in (ap else (same s u nil nil (mark_is a.0)).0, a.1)
  same_else no_else (else u) f g h = absurd (lacks (sym h))
  same_else (else s) no_else f g h = absurd (lacks h)

  pub same_else_ifs : (x y : ElseIfs) (f g : Shape) → p.put_else_ifs x f ≡ p.put_else_ifs y g → (x ≡ y) × (f ≡ g)
  same_else_ifs no_else_if no_else_if f g h = (refl, lacking h)
  same_else_ifs (else_if t v s es) (else_if u d q us) f g h =
      let a = part_is h in let b = inner_is (mark_is a.1) in let c = same_else_ifs es us f g a.2 in
      (equal-else_if a.0 (same_value v d (mark nil) (mark nil) (mark_is b.0)).0 (same s q nil nil b.1).0 c.0, c.1)
  same_else_ifs no_else_if (else_if u d q us) f g h = absurd (lacks (sym h))
  same_else_ifs (else_if t v s es) no_else_if f g h = absurd (lacks h)

  pub same_target : (x y : MayValue) (a b : Bool) (d e f g : Shape) → p.put_target x a d f ≡ p.put_target y b e g → (x ≡ y) × (a ≡ b) × (d ≡ e) × (f ≡ g)
  same_target no_value no_value true true d e f g h = let a = inner_is h in (refl, refl, mark_is a.0, a.1)
  same_target no_value no_value false false d e f g h = let a = inner_is h in (refl, refl, a.0, a.1)
  same_target (some_value v) (some_value u) a b d e f g h =
      let c = inner_is h in let x = same_value v u (mark (p.flag r.by_reference a d)) (mark (p.flag r.by_reference b e)) c.0 in
      let z = same_flag r.by_reference a b d e (mark_is x.1) in (ap some_value x.0, z.0, z.1, c.1)
  same_target no_value no_value true false d e f g h = absurd (reference_is_no_value h)
  same_target no_value no_value false true d e f g h = absurd (reference_is_no_value (sym h))
  same_target no_value (some_value u) true b d e f g h = absurd (reference_is_no_key h)
  same_target no_value (some_value u) false b d e f g h = absurd (value_is_no_key h)
  same_target (some_value v) no_value a true d e f g h = absurd (reference_is_no_key (sym h))
  same_target (some_value v) no_value a false d e f g h = absurd (value_is_no_key (sym h))

  pub same_cases : (x y : Cases) (f g : Shape) → p.put_cases x f ≡ p.put_cases y g → (x ≡ y) × (f ≡ g)
  same_cases no_case no_case f g h = (refl, lacking h)
  same_cases (case t no_value m ss cs) (case u no_value n us ds) f g h =
      let a = part_is h in let b = word_is (mark_is a.1) in let c = same_cases cs ds f g a.2 in (equal-case a.0 refl b.0 (same_all ss us nil nil b.1).0 c.0, c.1)
  same_cases (case t (some_value v) m ss cs) (case u (some_value d) n us ds) f g h =
      let a = part_is h in let e = same_value v d (word m (p.put_all ss nil)) (word n (p.put_all us nil)) (mark_is a.1) in let b = word_is e.1 in
      let c = same_cases cs ds f g a.2 in (equal-case a.0 (ap some_value e.0) b.0 (same_all ss us nil nil b.1).0 c.0, c.1)
  same_cases no_case (case u no_value n us ds) f g h = absurd (lacks (sym h))
  same_cases no_case (case u (some_value d) n us ds) f g h = absurd (lacks (sym h))
  same_cases (case t no_value m ss cs) no_case f g h = absurd (lacks h)
  same_cases (case t (some_value v) m ss cs) no_case f g h = absurd (lacks h)
  same_cases (case t no_value m ss cs) (case u (some_value d) n us ds) f g h = absurd (default_is_no_case h)
  same_cases (case t (some_value v) m ss cs) (case u no_value n us ds) f g h = absurd (default_is_no_case (sym h))

  pub same_finally : (x y : MayBlock) (f g : Shape) → p.put_finally x f ≡ p.put_finally y g → (x ≡ y) × (f ≡ g)
  same_finally no_block no_block f g h = (refl, lacking h)
  same_finally (block ss) (block us) f g h = let a = inner_is h in (ap block (same_all ss us (mark nil) (mark nil) (mark_is (inner_is (mark_is a.0)).0)).0, a.1)
  same_finally no_block (block us) f g h = absurd (lacks (sym h))
  same_finally (block ss) no_block f g h = absurd (lacks h)

  pub same_handlers : (x y : Catches) (d e f g : Shape) → p.put_handlers x d f ≡ p.put_handlers y e g → (x ≡ y) × (d ≡ e) × (f ≡ g)
  same_handlers no_catch no_catch d e f g h = let a = inner_is h in (refl, a.0, a.1)
  same_handlers (catch t ts a ss cs) (catch u us b qs ds) d e f g h =
      let i = inner_is h in let x = same_catch t u ts us a b (p.put_all ss (mark nil)) (p.put_all qs (mark nil)) (p.put_catches cs d) (p.put_catches ds e) i.0 in
      let y = same_catches cs ds d e x.rest in (equal-catch x.first x.classes x.variable (same_all ss qs (mark nil) (mark nil) x.block).0 y.0, y.1, i.1)
  same_handlers no_catch (catch u us b qs ds) d e f g h = absurd (only_finally_is_no_catches h)
  same_handlers (catch t ts a ss cs) no_catch d e f g h = absurd (only_finally_is_no_catches (sym h))

  pub same_catches : (x y : Catches) (f g : Shape) → p.put_catches x f ≡ p.put_catches y g → (x ≡ y) × (f ≡ g)
  same_catches no_catch no_catch f g h = (refl, lacking h)
  same_catches (catch t ts a ss cs) (catch u us b qs ds) f g h =
      let x = same_catch t u ts us a b (p.put_all ss (mark nil)) (p.put_all qs (mark nil)) (p.put_catches cs f) (p.put_catches ds g) h in
      let y = same_catches cs ds f g x.rest in (equal-catch x.first x.classes x.variable (same_all ss qs (mark nil) (mark nil) x.block).0 y.0, y.1)
  same_catches no_catch (catch u us b qs ds) f g h = absurd (lacks (sym h))
  same_catches (catch t ts a ss cs) no_catch f g h = absurd (lacks h)

  pub same_variables : (x y : Variables) (f g : Shape) → p.put_variables x f ≡ p.put_variables y g → (x ≡ y) × (f ≡ g)
  same_variables no_variable no_variable f g h = (refl, lacking h)
  same_variables (variable t v vs) (variable u d us) f g h =
      let a = inner_is h in let b = word_is a.0 in let c = same_further_variables vs us f g a.1 in (equal-variable b.0 (same_default v d nil nil b.1).0 c.0, c.1)
  same_variables no_variable (variable u d us) f g h = absurd (lacks (sym h))
  same_variables (variable t v vs) no_variable f g h = absurd (lacks h)

  pub same_further_variables : (x y : Variables) (f g : Shape) → p.further_variables x f ≡ p.further_variables y g → (x ≡ y) × (f ≡ g)
  same_further_variables no_variable no_variable f g h = (refl, lacking h)
  same_further_variables (variable t v vs) (variable u d us) f g h =
      let a = inner_is h in let b = word_is (inner_is (mark_is a.0)).0 in let c = same_further_variables vs us f g a.1 in (equal-variable b.0 (same_default v d nil nil b.1).0 c.0, c.1)
  same_further_variables no_variable (variable u d us) f g h = absurd (lacks (sym h))
  same_further_variables (variable t v vs) no_variable f g h = absurd (lacks h)

  pub same_constants : (r q : r.Rule) (x y : Constants) (f g : Shape) → p.put_constants r q x f ≡ p.put_constants r q y g → (x ≡ y) × (f ≡ g)
  same_constants r q no_constant no_constant f g h = (refl, lacking h)
  same_constants r q (constant t v cs) (constant u d ds) f g h =
      let a = inner_is h in let b = word_is a.0 in let c = same_further_constants r q cs ds f g a.1 in (equal-constant b.0 (same_value v d nil nil (mark_is b.1)).0 c.0, c.1)
  same_constants r q no_constant (constant u d ds) f g h = absurd (lacks (sym h))
  same_constants r q (constant t v cs) no_constant f g h = absurd (lacks h)

  pub same_further_constants : (r q : r.Rule) (x y : Constants) (f g : Shape) → p.further_constants r q x f ≡ p.further_constants r q y g → (x ≡ y) × (f ≡ g)
  same_further_constants r q no_constant no_constant f g h = (refl, lacking h)
  same_further_constants r q (constant t v cs) (constant u d ds) f g h =
      let a = inner_is h in let b = word_is (inner_is (mark_is a.0)).0 in let c = same_further_constants r q cs ds f g a.1 in (equal-constant b.0 (same_value v d nil nil (mark_is b.1)).0 c.0, c.1)
  same_further_constants r q no_constant (constant u d ds) f g h = absurd (lacks (sym h))
  same_further_constants r q (constant t v cs) no_constant f g h = absurd (lacks h)

  pub same_parameters : (x y : Parameters) (a b : Bool) (f g : Shape) → p.put_parameters x a f ≡ p.put_parameters y b g → (x ≡ y) × (a ≡ b) × (f ≡ g)
  same_parameters no_parameter no_parameter true true f g h = (refl, refl, (inner_is h).1)
  same_parameters no_parameter no_parameter false false f g h = (refl, refl, (inner_is h).1)
  same_parameters (parameter t vis type ref var name v ps) (parameter t2 vis2 type2 ref2 var2 name2 v2 ps2) a b f g h =
      let i = inner_is h in
      let x = same_parameter t t2 vis vis2 type type2 ref ref2 var var2 name name2 (p.put_default v nil) (p.put_default v2 nil)
      (p.further_parameters ps (p.list_end r.closing r.comma_closing a nil)) (p.further_parameters ps2 (p.list_end r.closing r.comma_closing b nil)) (mark_is i.0) in
      let z = same_further_parameters ps ps2 (p.list_end r.closing r.comma_closing a nil) (p.list_end r.closing r.comma_closing b nil) x.rest in
      (equal-parameter x.first x.visibility x.type x.reference x.variadic x.name (same_default v v2 nil nil x.value).0 z.0, (same_list_end r.closing r.comma_closing a b nil nil z.1).0, i.1)
  same_parameters no_parameter no_parameter true false f g h = absurd (no_comma h)
  same_parameters no_parameter no_parameter false true f g h = absurd (no_comma (sym h))
  same_parameters no_parameter (parameter t2 vis2 type2 ref2 var2 name2 v2 ps2) true b f g h = absurd (no_parameters_are_none h)
  same_parameters no_parameter (parameter t2 vis2 type2 ref2 var2 name2 v2 ps2) false b f g h = absurd (no_parameters_are_none h)
  same_parameters (parameter t vis type ref var name v ps) no_parameter a true f g h = absurd (no_parameters_are_none (sym h))
  same_parameters (parameter t vis type ref var name v ps) no_parameter a false f g h = absurd (no_parameters_are_none (sym h))

  pub same_further_parameters : (x y : Parameters) (f g : Shape) → p.further_parameters x f ≡ p.further_parameters y g → (x ≡ y) × (f ≡ g)
  same_further_parameters no_parameter no_parameter f g h = (refl, lacking h)
  same_further_parameters (parameter t vis type ref var name v ps) (parameter t2 vis2 type2 ref2 var2 name2 v2 ps2) f g h =
      let i = inner_is h in
      let x = same_parameter t t2 vis vis2 type type2 ref ref2 var var2 name name2 (p.put_default v nil) (p.put_default v2 nil) nil nil (mark_is i.0) in
      let z = same_further_parameters ps ps2 f g i.1 in
      (equal-parameter x.first x.visibility x.type x.reference x.variadic x.name (same_default v v2 nil nil x.value).0 z.0, z.1)
  same_further_parameters no_parameter (parameter t2 vis2 type2 ref2 var2 name2 v2 ps2) f g h = absurd (lacks (sym h))
  same_further_parameters (parameter t vis type ref var name v ps) no_parameter f g h = absurd (lacks h)

  pub same_members : (x y : Members) (f g : Shape) → p.put_members x f ≡ p.put_members y g → (x ≡ y) × (f ≡ g)
  same_members no_member no_member f g h = (refl, lacking h)
  same_members (member t m ms) (member u n ns) f g h =
      let a = same_member t u m n (p.put_members ms f) (p.put_members ns g) h in let b = same_members ms ns f g a.2 in (equal-member a.0 a.1 b.0, b.1)
  same_members no_member (member u n ns) f g h = absurd (member_stands u n (p.put_members ns g) f (sym h))
  same_members (member t m ms) no_member f g h = absurd (member_stands t m (p.put_members ms f) g h)

  pub same_member : (t u : Token) (x y : Member) (f g : Shape) → p.put_member t x f ≡ p.put_member u y g → (t ≡ u) × (x ≡ y) × (f ≡ g)
  same_member t u (TraitUse names end) (TraitUse names2 end2) f g h =
      let a = part_is h in let b = same_names names names2 (p.put_use_end end nil) (p.put_use_end end2 nil) (mark_is a.1) in (a.0, equal-TraitUse b.0 (same_use_end end end2 nil nil b.1).0, a.2)
  same_member t u (ClassConstants [] cs) (ClassConstants [] ds) f g h =
      let a = part_is h in (a.0, equal-ClassConstants refl (same_constants r.class_constant r.further_class_constant cs ds (mark nil) (mark nil) (mark_is (inner_is a.1).0)).0, a.2)
  same_member t u (ClassConstants (m ∷ ms) cs) (ClassConstants (n ∷ ns) ds) f g h =
      let a = part_is h in
      let b = same_words r.member_modifier (m ∷ ms) (n ∷ ns) (some r.modified_constants None (some r.class_constants None (mark (p.put_constants r.class_constant r.further_class_constant cs (mark nil))) nil) nil)
      (some r.modified_constants None (some r.class_constants None (mark (p.put_constants r.class_constant r.further_class_constant ds (mark nil))) nil) nil) a.1 in
      (a.0, equal-ClassConstants b.0 (same_constants r.class_constant r.further_class_constant cs ds (mark nil) (mark nil) (mark_is (inner_is (inner_is b.1).0).0)).0, a.2)
  same_member t u (Method [] ref name ps comma type b) (Method [] ref2 name2 ps2 comma2 type2 b2) f g h =
      let a = part_is h in
      let c = same_method ref ref2 name name2 (p.put_parameters ps comma (p.may_return type (p.put_method_body b nil))) (p.put_parameters ps2 comma2 (p.may_return type2 (p.put_method_body b2 nil))) nil nil a.1 in
      let l = same_parameters ps ps2 comma comma2 (p.may_return type (p.put_method_body b nil)) (p.may_return type2 (p.put_method_body b2 nil)) c.2 in
      let o = same_may_return type type2 (p.put_method_body b nil) (p.put_method_body b2 nil) l.2 in
      (a.0, equal-Method refl c.0 c.1 l.0 l.1 o.0 (same_method_body b b2 nil nil o.1), a.2)
  same_member t u (Method (m ∷ ms) ref name ps comma type b) (Method (n ∷ ns) ref2 name2 ps2 comma2 type2 b2) f g h =
      let a = part_is h in
      let k = same_words r.member_modifier (m ∷ ms) (n ∷ ns) (some r.modified_method None (p.put_method ref name (p.put_parameters ps comma (p.may_return type (p.put_method_body b nil))) nil) nil)
      (some r.modified_method None (p.put_method ref2 name2 (p.put_parameters ps2 comma2 (p.may_return type2 (p.put_method_body b2 nil))) nil) nil) a.1 in
      let c = same_method ref ref2 name name2 (p.put_parameters ps comma (p.may_return type (p.put_method_body b nil))) (p.put_parameters ps2 comma2 (p.may_return type2 (p.put_method_body b2 nil))) nil nil (inner_is k.1).0 in
      let l = same_parameters ps ps2 comma comma2 (p.may_return type (p.put_method_body b nil)) (p.may_return type2 (p.put_method_body b2 nil)) c.2 in
      let o = same_may_return type type2 (p.put_method_body b nil) (p.put_method_body b2 nil) l.2 in
      (a.0, equal-Method k.0 c.0 c.1 l.0 l.1 o.0 (same_method_body b b2 nil nil o.1), a.2)
  same_member t u (Properties ms type vs) (Properties ns type2 us) f g h =
      let a = part_is h in
      let k = same_words r.member_modifier ms ns (some r.modified_properties None (some r.properties None (p.may_property_type type (p.put_variables vs (mark nil))) nil) nil)
      (some r.modified_properties None (some r.properties None (p.may_property_type type2 (p.put_variables us (mark nil))) nil) nil) a.1 in
      let c = same_property_type type type2 (p.put_variables vs (mark nil)) (p.put_variables us (mark nil)) (inner_is (inner_is k.1).0).0 in
      (a.0, equal-Properties k.0 c.0 (same_variables vs us (mark nil) (mark nil) c.1).0, a.2)
  same_member t u (ClassConstants [] cs) (ClassConstants (n ∷ ns) ds) f g h = absurd (omega (arith, members_agree t u (ClassConstants [] cs) (ClassConstants (n ∷ ns) ds) f g h))
  same_member t u (ClassConstants (m ∷ ms) cs) (ClassConstants [] ds) f g h = absurd (omega (arith, members_agree t u (ClassConstants (m ∷ ms) cs) (ClassConstants [] ds) f g h))
  same_member t u (Method [] a2 a3 a4 a5 a6 a7) (Method (n ∷ ns) b2 b3 b4 b5 b6 b7) f g h = absurd (omega (arith, members_agree t u (Method [] a2 a3 a4 a5 a6 a7) (Method (n ∷ ns) b2 b3 b4 b5 b6 b7) f g h))
  same_member t u (Method (m ∷ ms) a2 a3 a4 a5 a6 a7) (Method [] b2 b3 b4 b5 b6 b7) f g h = absurd (omega (arith, members_agree t u (Method (m ∷ ms) a2 a3 a4 a5 a6 a7) (Method [] b2 b3 b4 b5 b6 b7) f g h))
  same_member t u (TraitUse a1 a2) (ClassConstants [] b2) f g h = absurd (omega (arith, members_agree t u (TraitUse a1 a2) (ClassConstants [] b2) f g h))
  same_member t u (TraitUse a1 a2) (ClassConstants (b0 ∷ b1) b2) f g h = absurd (omega (arith, members_agree t u (TraitUse a1 a2) (ClassConstants (b0 ∷ b1) b2) f g h))
  same_member t u (TraitUse a1 a2) (Method [] b2 b3 b4 b5 b6 b7) f g h = absurd (omega (arith, members_agree t u (TraitUse a1 a2) (Method [] b2 b3 b4 b5 b6 b7) f g h))
  same_member t u (TraitUse a1 a2) (Method (b0 ∷ b1) b2 b3 b4 b5 b6 b7) f g h = absurd (omega (arith, members_agree t u (TraitUse a1 a2) (Method (b0 ∷ b1) b2 b3 b4 b5 b6 b7) f g h))
  same_member t u (TraitUse a1 a2) (Properties b1 b2 b3) f g h = absurd (omega (arith, members_agree t u (TraitUse a1 a2) (Properties b1 b2 b3) f g h))
  same_member t u (ClassConstants [] a2) (TraitUse b1 b2) f g h = absurd (omega (arith, members_agree t u (ClassConstants [] a2) (TraitUse b1 b2) f g h))
  same_member t u (ClassConstants (a0 ∷ a1) a2) (TraitUse b1 b2) f g h = absurd (omega (arith, members_agree t u (ClassConstants (a0 ∷ a1) a2) (TraitUse b1 b2) f g h))
  same_member t u (ClassConstants [] a2) (Method [] b2 b3 b4 b5 b6 b7) f g h = absurd (omega (arith, members_agree t u (ClassConstants [] a2) (Method [] b2 b3 b4 b5 b6 b7) f g h))
  same_member t u (ClassConstants [] a2) (Method (b0 ∷ b1) b2 b3 b4 b5 b6 b7) f g h = absurd (omega (arith, members_agree t u (ClassConstants [] a2) (Method (b0 ∷ b1) b2 b3 b4 b5 b6 b7) f g h))
  same_member t u (ClassConstants (a0 ∷ a1) a2) (Method [] b2 b3 b4 b5 b6 b7) f g h = absurd (omega (arith, members_agree t u (ClassConstants (a0 ∷ a1) a2) (Method [] b2 b3 b4 b5 b6 b7) f g h))
  same_member t u (ClassConstants (a0 ∷ a1) a2) (Method (b0 ∷ b1) b2 b3 b4 b5 b6 b7) f g h = absurd (omega (arith, members_agree t u (ClassConstants (a0 ∷ a1) a2) (Method (b0 ∷ b1) b2 b3 b4 b5 b6 b7) f g h))
  same_member t u (ClassConstants [] a2) (Properties b1 b2 b3) f g h = absurd (omega (arith, members_agree t u (ClassConstants [] a2) (Properties b1 b2 b3) f g h))
  same_member t u (ClassConstants (a0 ∷ a1) a2) (Properties b1 b2 b3) f g h = absurd (omega (arith, members_agree t u (ClassConstants (a0 ∷ a1) a2) (Properties b1 b2 b3) f g h))
  same_member t u (Method [] a2 a3 a4 a5 a6 a7) (TraitUse b1 b2) f g h = absurd (omega (arith, members_agree t u (Method [] a2 a3 a4 a5 a6 a7) (TraitUse b1 b2) f g h))
  same_member t u (Method (a0 ∷ a1) a2 a3 a4 a5 a6 a7) (TraitUse b1 b2) f g h = absurd (omega (arith, members_agree t u (Method (a0 ∷ a1) a2 a3 a4 a5 a6 a7) (TraitUse b1 b2) f g h))
  same_member t u (Method [] a2 a3 a4 a5 a6 a7) (ClassConstants [] b2) f g h = absurd (omega (arith, members_agree t u (Method [] a2 a3 a4 a5 a6 a7) (ClassConstants [] b2) f g h))
  same_member t u (Method [] a2 a3 a4 a5 a6 a7) (ClassConstants (b0 ∷ b1) b2) f g h = absurd (omega (arith, members_agree t u (Method [] a2 a3 a4 a5 a6 a7) (ClassConstants (b0 ∷ b1) b2) f g h))
  same_member t u (Method (a0 ∷ a1) a2 a3 a4 a5 a6 a7) (ClassConstants [] b2) f g h = absurd (omega (arith, members_agree t u (Method (a0 ∷ a1) a2 a3 a4 a5 a6 a7) (ClassConstants [] b2) f g h))
  same_member t u (Method (a0 ∷ a1) a2 a3 a4 a5 a6 a7) (ClassConstants (b0 ∷ b1) b2) f g h = absurd (omega (arith, members_agree t u (Method (a0 ∷ a1) a2 a3 a4 a5 a6 a7) (ClassConstants (b0 ∷ b1) b2) f g h))
  same_member t u (Method [] a2 a3 a4 a5 a6 a7) (Properties b1 b2 b3) f g h = absurd (omega (arith, members_agree t u (Method [] a2 a3 a4 a5 a6 a7) (Properties b1 b2 b3) f g h))
  same_member t u (Method (a0 ∷ a1) a2 a3 a4 a5 a6 a7) (Properties b1 b2 b3) f g h = absurd (omega (arith, members_agree t u (Method (a0 ∷ a1) a2 a3 a4 a5 a6 a7) (Properties b1 b2 b3) f g h))
  same_member t u (Properties a1 a2 a3) (TraitUse b1 b2) f g h = absurd (omega (arith, members_agree t u (Properties a1 a2 a3) (TraitUse b1 b2) f g h))
  same_member t u (Properties a1 a2 a3) (ClassConstants [] b2) f g h = absurd (omega (arith, members_agree t u (Properties a1 a2 a3) (ClassConstants [] b2) f g h))
  same_member t u (Properties a1 a2 a3) (ClassConstants (b0 ∷ b1) b2) f g h = absurd (omega (arith, members_agree t u (Properties a1 a2 a3) (ClassConstants (b0 ∷ b1) b2) f g h))
  same_member t u (Properties a1 a2 a3) (Method [] b2 b3 b4 b5 b6 b7) f g h = absurd (omega (arith, members_agree t u (Properties a1 a2 a3) (Method [] b2 b3 b4 b5 b6 b7) f g h))
  same_member t u (Properties a1 a2 a3) (Method (b0 ∷ b1) b2 b3 b4 b5 b6 b7) f g h = absurd (omega (arith, members_agree t u (Properties a1 a2 a3) (Method (b0 ∷ b1) b2 b3 b4 b5 b6 b7) f g h))

  same_method_body : (x y : MayBlock) (f g : Shape) → p.put_method_body x f ≡ p.put_method_body y g → x ≡ y
  same_method_body no_block no_block f g h = refl
  same_method_body (block ss) (block us) f g h = ap block (same_all ss us (mark nil) (mark nil) (mark_is (inner_is (inner_is h).0).0)).0
  same_method_body no_block (block us) f g h = absurd (no_body_is_no_block h)
  same_method_body (block ss) no_block f g h = absurd (no_body_is_no_block (sym h))

-- ---- declarations

module _ where
  equal-Namespace : {t u n m e d : Token} → t ≡ u → n ≡ m → e ≡ d → Namespace t n e ≡ Namespace u m d
  equal-Namespace a b c = cc

  equal-NamespaceBlock : {t u : Token} {a b : Option Token} {x y : Tops} → t ≡ u → a ≡ b → x ≡ y → NamespaceBlock t a x ≡ NamespaceBlock u b y
  equal-NamespaceBlock a b c = cc

  equal-Use : {t u : Token} {a b : Option Token} {x y : List Used} {d e : Token} → t ≡ u → a ≡ b → x ≡ y → d ≡ e → Use t a x d ≡ Use u b y e
  equal-Use a b c d = cc

  equal-UseGroup : {t u : Token} {a b : Option Token} {n m : Token} {x y : List Used} {v w : Bool} {d e : Token} → t ≡ u → a ≡ b → n ≡ m → x ≡ y → v ≡ w → d ≡ e → UseGroup t a n x v d ≡ UseGroup u b m y w e
  equal-UseGroup a b c d e f = cc

  equal-top : {x y : Top} {xs ys : Tops} → x ≡ y → xs ≡ ys → top x xs ≡ top y ys
  equal-top a b = cc

  list_is_no_group : {d e f g : Shape} → some r.use_list None d f ≡ some r.use_group None e g → ⊥
  list_is_no_group h = cc

  top_number : Top → ℕ
  top_number (Namespace t name end) = 0
  top_number (NamespaceBlock t name xs) = 1
  top_number (Use t kind xs end) = 2
  top_number (UseGroup t kind name xs comma end) = 2
  top_number (Plain s) = 3

  top_rule_number : r.Rule → ℕ
  top_rule_number r.namespace_statement = 0
  top_rule_number r.namespace_block = 1
  top_rule_number r.use_declaration = 2
  top_rule_number _ = 3

  top_shape_number : Shape → ℕ
  top_shape_number (some r t d f) = top_rule_number r
  top_shape_number _ = 4

  top_numbered : (x : Top) (f : Shape) → top_shape_number (p.put_top x f) ≡ top_number x
  unfolding top_number top_rule_number top_shape_number
  top_numbered (Namespace t name end) f = refl
  top_numbered (NamespaceBlock t name xs) f = refl
  top_numbered (Use t kind xs end) f = refl
  top_numbered (UseGroup t kind name xs comma end) f = refl
  top_numbered (Plain s) f = refl

  tops_agree : (x y : Top) (f g : Shape) → p.put_top x f ≡ p.put_top y g → top_number x ≡ top_number y
  tops_agree x y f g h = sym (top_numbered x f) ∙ ap top_shape_number h ∙ top_numbered y g

  top_stands : (x : Top) (f g : Shape) → p.put_top x f ≡ none g → ⊥
  top_stands (Namespace t name end) f g h = lacks h
  top_stands (NamespaceBlock t name xs) f g h = lacks h
  top_stands (Use t kind xs end) f g h = lacks h
  top_stands (UseGroup t kind name xs comma end) f g h = lacks h
  top_stands (Plain s) f g h = lacks h

mutual
  unfolding top_number

  pub same_top : (x y : Top) (f g : Shape) → p.put_top x f ≡ p.put_top y g → (x ≡ y) × (f ≡ g)
  same_top (Namespace t name end) (Namespace u name2 end2) f g h =
      let a = part_is h in let b = word_is (mark_is a.1) in (equal-Namespace a.0 b.0 (word_is b.1).0, a.2)
  same_top (NamespaceBlock t name xs) (NamespaceBlock u name2 ys) f g h =
      let a = part_is h in
      let b = same_may_word r.namespace_name name name2 (some r.tops None (mark (p.put_tops xs (mark nil))) nil) (some r.tops None (mark (p.put_tops ys (mark nil))) nil) (mark_is a.1) in
      (equal-NamespaceBlock a.0 b.0 (same_tops xs ys (mark nil) (mark nil) (mark_is (inner_is b.1).0)).0, a.2)
  same_top (Use t kind xs end) (Use u kind2 ys end2) f g h =
      let a = part_is h in
      let b = same_may_word r.use_kind kind kind2 (some r.use_list None (p.first_items r.further_use_item p.put_item xs (word end nil)) nil)
      (some r.use_list None (p.first_items r.further_use_item p.put_item ys (word end2 nil)) nil) (mark_is a.1) in
      let c = same_first_items r.further_use_item p.put_item same_item item_stands xs ys (word end nil) (word end2 nil) (inner_is b.1).0 in
      (equal-Use a.0 b.0 c.0 (word_is c.1).0, a.2)
  same_top (UseGroup t kind name xs comma end) (UseGroup u kind2 name2 ys comma2 end2) f g h =
      let a = part_is h in
      let b = same_may_word r.use_kind kind kind2
      (some r.use_group None (word name (mark (some r.group_items None (mark (p.first_items r.further_group_item p.put_group_item xs (p.list_end r.group_end r.comma_group_end comma nil))) (word end nil)))) nil)
      (some r.use_group None (word name2 (mark (some r.group_items None (mark (p.first_items r.further_group_item p.put_group_item ys (p.list_end r.group_end r.comma_group_end comma2 nil))) (word end2 nil)))) nil) (mark_is a.1) in
      let c = word_is (inner_is b.1).0 in let d = inner_is (mark_is c.1) in
      let e = same_first_items r.further_group_item p.put_group_item same_group_item group_item_stands xs ys (p.list_end r.group_end r.comma_group_end comma nil) (p.list_end r.group_end r.comma_group_end comma2 nil) (mark_is d.0) in
      (equal-UseGroup a.0 b.0 c.0 e.0 (same_list_end r.group_end r.comma_group_end comma comma2 nil nil e.1).0 (word_is d.1).0, a.2)
  same_top (Plain s) (Plain u) f g h = let a = part_is h in (ap Plain (same s u nil nil a.1).0, a.2)
  same_top (Use t kind xs end) (UseGroup u kind2 name2 ys comma2 end2) f g h =
      let a = part_is h in
      let b = same_may_word r.use_kind kind kind2 (some r.use_list None (p.first_items r.further_use_item p.put_item xs (word end nil)) nil)
      (some r.use_group None (word name2 (mark (some r.group_items None (mark (p.first_items r.further_group_item p.put_group_item ys (p.list_end r.group_end r.comma_group_end comma2 nil))) (word end2 nil)))) nil) (mark_is a.1) in
      absurd (list_is_no_group b.1)
  same_top (UseGroup u kind2 name2 ys comma2 end2) (Use t kind xs end) f g h =
      let a = part_is h in
      let b = same_may_word r.use_kind kind2 kind
      (some r.use_group None (word name2 (mark (some r.group_items None (mark (p.first_items r.further_group_item p.put_group_item ys (p.list_end r.group_end r.comma_group_end comma2 nil))) (word end2 nil)))) nil)
      (some r.use_list None (p.first_items r.further_use_item p.put_item xs (word end nil)) nil) (mark_is a.1) in
      absurd (list_is_no_group (sym b.1))
  same_top x y f g h = absurd (omega (arith, tops_agree x y f g h))

  pub same_tops : (x y : Tops) (f g : Shape) → p.put_tops x f ≡ p.put_tops y g → (x ≡ y) × (f ≡ g)
  same_tops no_top no_top f g h = (refl, lacking h)
  same_tops (top x xs) (top y ys) f g h = let a = same_top x y (p.put_tops xs f) (p.put_tops ys g) h in let b = same_tops xs ys f g a.1 in (equal-top a.0 b.0, b.1)
  same_tops no_top (top y ys) f g h = absurd (top_stands y (p.put_tops ys g) f (sym h))
  same_tops (top x xs) no_top f g h = absurd (top_stands x (p.put_tops xs f) g h)
