use Rattle.std.proofs.Common.{append_assoc, arith, map}
use Rattle.stan_model_grammar.specs.Sites.{sites}
use Rattle.stan_syntax.specs.Tree.{operation_of}
use Rattle.stan_syntax.proofs.Layers.{argument-Named, argument-Positional, argument-Spread, arguments_fields, arm-Conditions, arm-Default, body-Held, body-Read, class-Computed, class-Named, class-Scoped, class-Variable, element-Keyed, element-Spread, element-Value, form-Array, form-Arrow, form-Assignment, form-Binary, form-Brackets, form-Chain, form-Closure, form-Conditional, form-Empty, form-Exit, form-IsSet, form-Leaf, form-Match, form-New, form-Post, form-Prefix, form-Text, member-Computed, member-Named, operation_fields, parameter_fields, part-Expression, part-Token, statement-Expression, suffix-Call, suffix-Decrement, suffix-Increment, suffix-Index, suffix-Property, suffix-Push, suffix-Scoped, tree_fields}
use Rattle.stan_sites.proofs.Lists.{flat_more, items_flat, none, operations_flat, positional_flat, statements_flat, steps_flat}
use Rattle.stan_sites.specs.Sites.{site_of}
use Rattle.stan_sites.proofs.sites.+sites.Goals as goal

pub argument_sites-returns-in-Positional : goal.argument_sites-returns-in-Positional
argument_sites-returns-in-Positional t c = rw (c.in-Positional.is, argument-Positional) c.expr_sites.ensures

pub argument_sites-returns-in-Spread : goal.argument_sites-returns-in-Spread
argument_sites-returns-in-Spread t c = rw (c.in-Spread.is, argument-Spread) c.expr_sites-in-Spread.ensures

pub argument_sites-returns-in-Named : goal.argument_sites-returns-in-Named
argument_sites-returns-in-Named t c = rw (c.in-Named.is, argument-Named) c.expr_sites-in-Named.ensures

pub arguments_sites-returns : goal.arguments_sites-returns
arguments_sites-returns t c = rw (arguments_fields, items_flat) (rw (c.as_slice.ensures, c.deeper.ensures) at c.listed_sites.ensures)

pub arm_sites-returns-in_ok-exprs_sites-in-Conditions : goal.arm_sites-returns-in_ok-exprs_sites-in-Conditions
arm_sites-returns-in_ok-exprs_sites-in-Conditions t c = rw (c.in-Conditions.is, arm-Conditions, positional_flat) (rw (c.in_ok-exprs_sites-in-Conditions.ensures, append_assoc, c.as_slice.ensures) at c.expr_sites.ensures)

pub arm_sites-returns-in-Default : goal.arm_sites-returns-in-Default
arm_sites-returns-in-Default t c = rw (c.in-Default.is, arm-Default) c.expr_sites-in-Default.ensures

pub body_sites-returns-in-Held : goal.body_sites-returns-in-Held
body_sites-returns-in-Held t c = rw (c.in-Held.is, body-Held) c.push_body.ensures

pub body_sites-returns-in-Read : goal.body_sites-returns-in-Read
body_sites-returns-in-Read t c = rw (c.in-Read.is, body-Read, statements_flat) (rw (c.as_slice.ensures, c.deeper.ensures) at c.statements_sites.ensures)

pub class_sites-returns-in-Named : goal.class_sites-returns-in-Named
class_sites-returns-in-Named t c = rw (c.in-Named.is, class-Named) (none (map site_of c.args.found.now.items))

pub class_sites-returns-in-Variable : goal.class_sites-returns-in-Variable
class_sites-returns-in-Variable t c = rw (c.in-Variable.is, class-Variable, steps_flat) (rw c.as_slice.ensures at c.suffixes_sites.ensures)

pub class_sites-returns-in-Scoped : goal.class_sites-returns-in-Scoped
class_sites-returns-in-Scoped t c = rw (c.in-Scoped.is, class-Scoped, steps_flat) (rw c.as_slice-in-Scoped.ensures at c.suffixes_sites-in-Scoped.ensures)

pub class_sites-returns-in-Computed : goal.class_sites-returns-in-Computed
class_sites-returns-in-Computed t c = rw (c.in-Computed.is, class-Computed) (rw (c.get.ensures, c.deeper.ensures) at c.expr_sites.ensures)

pub element_sites-returns-in-Spread : goal.element_sites-returns-in-Spread
element_sites-returns-in-Spread t c = rw (c.in-Spread.is, element-Spread) c.expr_sites.ensures

pub element_sites-returns-in-Value : goal.element_sites-returns-in-Value
element_sites-returns-in-Value t c = rw (c.in-Value.is, element-Value) c.expr_sites-in-Value.ensures

pub element_sites-returns-in_ok-expr_sites-in-Keyed : goal.element_sites-returns-in_ok-expr_sites-in-Keyed
element_sites-returns-in_ok-expr_sites-in-Keyed t c = rw (c.in-Keyed.is, element-Keyed) (rw (c.in_ok-expr_sites-in-Keyed.ensures, append_assoc) at c.expr_sites-in-Keyed-2.ensures)

pub expr_sites-returns : goal.expr_sites-returns
expr_sites-returns t c = rw tree_fields c.form_sites.ensures

pub form_sites-returns-in-Leaf : goal.form_sites-returns-in-Leaf
form_sites-returns-in-Leaf t c = rw (c.in-Leaf.is, form-Leaf) (none (map site_of c.args.found.now.items))

pub form_sites-returns-in-Brackets : goal.form_sites-returns-in-Brackets
form_sites-returns-in-Brackets t c = rw (c.in-Brackets.is, form-Brackets) (rw (c.get.ensures, c.deeper.ensures) at c.expr_sites.ensures)

pub form_sites-returns-in-Array : goal.form_sites-returns-in-Array
form_sites-returns-in-Array t c = rw (c.in-Array.is, form-Array, items_flat) (rw (c.as_slice.ensures, c.deeper-in-Array.ensures) at c.elements_sites.ensures)

pub form_sites-returns-in-IsSet : goal.form_sites-returns-in-IsSet
form_sites-returns-in-IsSet t c = rw (c.in-IsSet.is, form-IsSet, positional_flat) (rw (c.as_slice-in-IsSet.ensures, c.deeper-in-IsSet.ensures) at c.exprs_sites.ensures)

pub form_sites-returns-in-Empty : goal.form_sites-returns-in-Empty
form_sites-returns-in-Empty t c = rw (c.in-Empty.is, form-Empty) (rw (c.get-in-Empty.ensures, c.deeper-in-Empty.ensures) at c.expr_sites-in-Empty.ensures)

pub form_sites-returns-in-Exit : goal.form_sites-returns-in-Exit
form_sites-returns-in-Exit t c = rw (c.in-Exit.is, form-Exit) c.called_sites.ensures

pub form_sites-returns-in_ok-class_sites-in-New : goal.form_sites-returns-in_ok-class_sites-in-New
form_sites-returns-in_ok-class_sites-in-New t c = rw (c.in-New.is, form-New) (rw (c.in_ok-class_sites-in-New.ensures, append_assoc) at c.called_sites-in-New.ensures)

pub form_sites-returns-in_ok-expr_sites-in-Match : goal.form_sites-returns-in_ok-expr_sites-in-Match
form_sites-returns-in_ok-expr_sites-in-Match t c = rw (c.in-Match.is, form-Match, items_flat) (rw (c.in_ok-expr_sites-in-Match.ensures, append_assoc, c.get-in-Match.ensures, c.deeper-in-Match.ensures, c.as_slice-in-Match.ensures, c.deeper-in-Match-2.ensures) at c.arms_sites.ensures)

pub form_sites-returns-in_ok-parameters_sites-in-Closure : goal.form_sites-returns-in_ok-parameters_sites-in-Closure
form_sites-returns-in_ok-parameters_sites-in-Closure t c =
    let before = rw (c.as_slice-in-Closure.ensures, c.deeper-in-Closure.ensures) at c.in_ok-parameters_sites-in-Closure.ensures in
    rw (c.in-Closure.is, form-Closure, items_flat) (rw (before, append_assoc) at c.body_sites.ensures)

pub form_sites-returns-in_ok-parameters_sites-in-Arrow : goal.form_sites-returns-in_ok-parameters_sites-in-Arrow
form_sites-returns-in_ok-parameters_sites-in-Arrow t c =
    let before = rw (c.as_slice-in-Arrow.ensures, c.deeper-in-Arrow-2.ensures, c.deeper-in-Arrow.ensures) at c.in_ok-parameters_sites-in-Arrow.ensures in
    rw (c.in-Arrow.is, form-Arrow, items_flat) (rw (before, append_assoc, c.get-in-Arrow.ensures, c.deeper-in-Arrow-3.ensures) at c.expr_sites-in-Arrow.ensures)

pub form_sites-returns-in-Text : goal.form_sites-returns-in-Text
form_sites-returns-in-Text t c = rw (c.in-Text.is, form-Text, steps_flat) (rw c.as_slice-in-Text.ensures at c.parts_sites.ensures)

pub form_sites-returns-in_ok-expr_sites-in-Post : goal.form_sites-returns-in_ok-expr_sites-in-Post
form_sites-returns-in_ok-expr_sites-in-Post t c =
    rw (c.in-Post.is, form-Post, steps_flat, append_assoc) (rw (c.in_ok-expr_sites-in-Post.ensures, append_assoc, c.in_ok-push_call-in-Post.ensures, append_assoc, c.get-in-Post.ensures, c.as_slice-in-Post.ensures, c.get-in-Post-2.ensures, c.as_slice-in-Post-2.ensures) at c.suffixes_sites.ensures)

pub form_sites-returns-in-Prefix : goal.form_sites-returns-in-Prefix
form_sites-returns-in-Prefix t c = rw (c.in-Prefix.is, form-Prefix) (rw (c.get-in-Prefix.ensures, c.deeper-in-Prefix.ensures) at c.expr_sites-in-Prefix.ensures)

pub form_sites-returns-in_ok-expr_sites-in-Assignment : goal.form_sites-returns-in_ok-expr_sites-in-Assignment
form_sites-returns-in_ok-expr_sites-in-Assignment t c = rw (c.in-Assignment.is, form-Assignment) (rw (c.in_ok-expr_sites-in-Assignment.ensures, append_assoc, c.get-in-Assignment.ensures, c.deeper-in-Assignment.ensures, c.get-in-Assignment-2.ensures, c.deeper-in-Assignment-2.ensures) at c.expr_sites-in-Assignment-2.ensures)

pub form_sites-returns-in_ok-expr_sites-in-Chain : goal.form_sites-returns-in_ok-expr_sites-in-Chain
form_sites-returns-in_ok-expr_sites-in-Chain t c = rw (c.in-Chain.is, form-Chain, operations_flat) (rw (c.in_ok-expr_sites-in-Chain.ensures, append_assoc, c.get-in-Chain.ensures, c.left_level.ensures, c.get-in-Chain-2.ensures, c.as_slice-in-Chain.ensures, c.deeper-in-Chain.ensures) at c.operations_sites.ensures)

pub form_sites-returns-in_ok-expr_sites-in-Binary : goal.form_sites-returns-in_ok-expr_sites-in-Binary
form_sites-returns-in_ok-expr_sites-in-Binary t c = rw (c.in-Binary.is, form-Binary) (rw (c.in_ok-expr_sites-in-Binary.ensures, append_assoc, c.get-in-Binary.ensures, c.left_level-in-Binary.ensures, c.get-in-Binary-2.ensures, c.get-in-Binary-3.ensures, c.deeper-in-Binary.ensures) at c.expr_sites-in-Binary-2.ensures)

pub form_sites-returns-in_ok-expr_sites-in-Conditional-2 : goal.form_sites-returns-in_ok-expr_sites-in-Conditional-2
form_sites-returns-in_ok-expr_sites-in-Conditional-2 t c =
    rw (c.in-Conditional.is, form-Conditional, append_assoc) (rw (c.in_ok-expr_sites-in-Conditional-2.ensures, append_assoc, c.in_ok-expr_sites-in-Conditional.ensures, append_assoc, c.get-in-Conditional.ensures, c.get-in-Conditional-2.ensures, c.deeper-in-Conditional.ensures, c.get-in-Conditional-3.ensures, c.deeper-in-Conditional-2.ensures) at c.expr_sites-in-Conditional-3.ensures)

pub member_sites-returns-in-Named : goal.member_sites-returns-in-Named
member_sites-returns-in-Named t c = rw (c.in-Named.is, member-Named) (none (map site_of c.args.found.now.items))

pub member_sites-returns-in-Computed : goal.member_sites-returns-in-Computed
member_sites-returns-in-Computed t c = rw (c.in-Computed.is, member-Computed) (rw (c.get.ensures, c.deeper.ensures) at c.expr_sites.ensures)

pub parameter_sites-returns-in-None : goal.parameter_sites-returns-in-None
parameter_sites-returns-in-None t c = rw (parameter_fields, c.in-None.is) (none (map site_of c.args.found.now.items))

pub parameter_sites-returns-in-Some : goal.parameter_sites-returns-in-Some
parameter_sites-returns-in-Some t c = rw (parameter_fields, c.in-Some.is) (rw c.get.ensures at c.expr_sites.ensures)

pub part_sites-returns-in-Token : goal.part_sites-returns-in-Token
part_sites-returns-in-Token t c = rw (c.in-Token.is, part-Token) (none (map site_of c.args.found.now.items))

pub part_sites-returns-in-Expression : goal.part_sites-returns-in-Expression
part_sites-returns-in-Expression t c = rw (c.in-Expression.is, part-Expression) (rw c.deeper.ensures at c.expr_sites.ensures)

pub statement_sites-returns : goal.statement_sites-returns
statement_sites-returns t c =
    grind (arith, statement-Expression)

pub suffix_sites-returns-in-Push : goal.suffix_sites-returns-in-Push
suffix_sites-returns-in-Push t c = rw (c.in-Push.is, suffix-Push) (none (map site_of c.args.found.now.items))

pub suffix_sites-returns-in-Increment : goal.suffix_sites-returns-in-Increment
suffix_sites-returns-in-Increment t c = rw (c.in-Increment.is, suffix-Increment) (none (map site_of c.args.found.now.items))

pub suffix_sites-returns-in-Decrement : goal.suffix_sites-returns-in-Decrement
suffix_sites-returns-in-Decrement t c = rw (c.in-Decrement.is, suffix-Decrement) (none (map site_of c.args.found.now.items))

pub suffix_sites-returns-in-Index : goal.suffix_sites-returns-in-Index
suffix_sites-returns-in-Index t c = rw (c.in-Index.is, suffix-Index) (rw (c.get.ensures, c.deeper.ensures) at c.expr_sites.ensures)

pub suffix_sites-returns-in_ok-member_sites-in-Property : goal.suffix_sites-returns-in_ok-member_sites-in-Property
suffix_sites-returns-in_ok-member_sites-in-Property t c = rw (c.in-Property.is, suffix-Property) (rw (c.in_ok-member_sites-in-Property.ensures, append_assoc) at c.called_sites.ensures)

pub suffix_sites-returns-in-Scoped : goal.suffix_sites-returns-in-Scoped
suffix_sites-returns-in-Scoped t c = rw (c.in-Scoped.is, suffix-Scoped) c.called_sites-in-Scoped.ensures

pub suffix_sites-returns-in-Call : goal.suffix_sites-returns-in-Call
suffix_sites-returns-in-Call t c = rw (c.in-Call.is, suffix-Call) c.arguments_sites.ensures

pub operations_sites-loop-operation-preserved : goal.operations_sites-loop-operation-preserved
operations_sites-loop-operation-preserved t c =
    let more = flat_more (λ x. sites c.args.level (operation_of x).operand) c.args.operations.now c.loop-operation.operation-index c.operation-item.result c.loop-operation-test.true c.operation-item.is in
    rw (more, operation_fields) (rw (c.loop-operation.invariant, append_assoc) at c.in_ok-expr_sites.ensures)
