use Rattle.std.proofs.Common.{append_assoc, map, sym}
use Rattle.stan_syntax.specs.Tree.{operation_of}
use Rattle.stan_syntax.proofs.Layers.{argument-Named, argument-Positional, argument-Spread, arguments_fields, arm-Conditions, arm-Default, class-Computed, class-Named, class-Scoped, class-Variable, element-Keyed, element-Spread, element-Value, form-Array, form-Arrow, form-Assignment, form-Binary, form-Brackets, form-Chain, form-Closure, form-Conditional, form-Empty, form-Exit, form-IsSet, form-Leaf, form-Match, form-New, form-Post, form-Prefix, form-Text, member-Computed, member-Named, operation_fields, parameter_fields, part-Expression, part-Token, suffix-Call, suffix-Decrement, suffix-Increment, suffix-Index, suffix-Property, suffix-Push, suffix-Scoped, tree_fields}
use Rattle.stan_expr_walk.proofs.Lists.{flat_more, items_flat, none, operations_flat, positional_flat, steps_flat}
use Rattle.stan_expr_walk.specs.Found.{found_of}
use Rattle.stan_expr_walk.specs.Taken.{operand_taken}
use Rattle.stan_expr_walk.proofs.walk.+walk.Goals as goal

pub argument_found-returns-in-Positional : goal.argument_found-returns-in-Positional
argument_found-returns-in-Positional t c = rw (c.in-Positional.is, argument-Positional) c.expr_found.ensures

pub argument_found-returns-in-Spread : goal.argument_found-returns-in-Spread
argument_found-returns-in-Spread t c = rw (c.in-Spread.is, argument-Spread) c.expr_found-in-Spread.ensures

pub argument_found-returns-in-Named : goal.argument_found-returns-in-Named
argument_found-returns-in-Named t c = rw (c.in-Named.is, argument-Named) c.expr_found-in-Named.ensures

pub arguments_found-returns : goal.arguments_found-returns
arguments_found-returns t c = rw (arguments_fields, items_flat) (rw (c.as_slice.ensures) at c.listed_found.ensures)

pub arm_found-returns-in_ok-exprs_found-in-Conditions : goal.arm_found-returns-in_ok-exprs_found-in-Conditions
arm_found-returns-in_ok-exprs_found-in-Conditions t c = rw (c.in-Conditions.is, arm-Conditions, positional_flat) (rw (c.in_ok-exprs_found-in-Conditions.ensures, append_assoc, c.as_slice.ensures) at c.expr_found.ensures)

pub arm_found-returns-in-Default : goal.arm_found-returns-in-Default
arm_found-returns-in-Default t c = rw (c.in-Default.is, arm-Default) c.expr_found-in-Default.ensures

pub class_found-returns-in-Named : goal.class_found-returns-in-Named
class_found-returns-in-Named t c = rw (c.in-Named.is, class-Named) (none (map found_of c.args.found.now.items))

pub class_found-returns-in-Variable : goal.class_found-returns-in-Variable
class_found-returns-in-Variable t c = rw (c.in-Variable.is, class-Variable, steps_flat) (rw c.as_slice.ensures at c.suffixes_found.ensures)

pub class_found-returns-in-Scoped : goal.class_found-returns-in-Scoped
class_found-returns-in-Scoped t c = rw (c.in-Scoped.is, class-Scoped, steps_flat) (rw c.as_slice-in-Scoped.ensures at c.suffixes_found-in-Scoped.ensures)

pub class_found-returns-in-Computed : goal.class_found-returns-in-Computed
class_found-returns-in-Computed t c = rw (c.in-Computed.is, class-Computed) (rw (c.get.ensures) at c.expr_found.ensures)

pub element_found-returns-in-Spread : goal.element_found-returns-in-Spread
element_found-returns-in-Spread t c = rw (c.in-Spread.is, element-Spread) c.expr_found.ensures

pub element_found-returns-in-Value : goal.element_found-returns-in-Value
element_found-returns-in-Value t c = rw (c.in-Value.is, element-Value) c.expr_found-in-Value.ensures

pub element_found-returns-in_ok-expr_found-in-Keyed : goal.element_found-returns-in_ok-expr_found-in-Keyed
element_found-returns-in_ok-expr_found-in-Keyed t c = rw (c.in-Keyed.is, element-Keyed) (rw (c.in_ok-expr_found-in-Keyed.ensures, append_assoc) at c.expr_found-in-Keyed-2.ensures)

pub expr_found-returns : goal.expr_found-returns
expr_found-returns t c = rw tree_fields (rw (c.in_ok-own_found.ensures, append_assoc, tree_fields) at c.form_found.ensures)

pub form_found-returns-in-Leaf : goal.form_found-returns-in-Leaf
form_found-returns-in-Leaf t c = rw (c.in-Leaf.is, form-Leaf) (none (map found_of c.args.found.now.items))

pub form_found-returns-in-Brackets : goal.form_found-returns-in-Brackets
form_found-returns-in-Brackets t c = rw (c.in-Brackets.is, form-Brackets) (rw (c.get.ensures) at c.expr_found.ensures)

pub form_found-returns-in-Array : goal.form_found-returns-in-Array
form_found-returns-in-Array t c = rw (c.in-Array.is, form-Array, items_flat) (rw (c.as_slice.ensures) at c.elements_found.ensures)

pub form_found-returns-in-IsSet : goal.form_found-returns-in-IsSet
form_found-returns-in-IsSet t c = rw (c.in-IsSet.is, form-IsSet, positional_flat) (rw (c.as_slice-in-IsSet.ensures) at c.exprs_found.ensures)

pub form_found-returns-in-Empty : goal.form_found-returns-in-Empty
form_found-returns-in-Empty t c = rw (c.in-Empty.is, form-Empty) (rw (c.get-in-Empty.ensures) at c.expr_found-in-Empty.ensures)

pub form_found-returns-in-Exit : goal.form_found-returns-in-Exit
form_found-returns-in-Exit t c = rw (c.in-Exit.is, form-Exit) c.called_found.ensures

pub form_found-returns-in_ok-class_found-in-New : goal.form_found-returns-in_ok-class_found-in-New
form_found-returns-in_ok-class_found-in-New t c = rw (c.in-New.is, form-New) (rw (c.in_ok-class_found-in-New.ensures, append_assoc) at c.called_found-in-New.ensures)

pub form_found-returns-in_ok-expr_found-in-Match : goal.form_found-returns-in_ok-expr_found-in-Match
form_found-returns-in_ok-expr_found-in-Match t c = rw (c.in-Match.is, form-Match, items_flat) (rw (c.in_ok-expr_found-in-Match.ensures, append_assoc, c.get-in-Match.ensures, c.as_slice-in-Match.ensures) at c.arms_found.ensures)

pub form_found-returns-in_ok-parameters_found-in-Arrow : goal.form_found-returns-in_ok-parameters_found-in-Arrow
form_found-returns-in_ok-parameters_found-in-Arrow t c = rw (c.in-Arrow.is, form-Arrow, items_flat) (rw (c.in_ok-parameters_found-in-Arrow.ensures, append_assoc, c.as_slice-in-Arrow.ensures, c.get-in-Arrow.ensures) at c.expr_found-in-Arrow.ensures)

pub form_found-returns-in-Text : goal.form_found-returns-in-Text
form_found-returns-in-Text t c = rw (c.in-Text.is, form-Text, steps_flat) (rw c.as_slice-in-Text.ensures at c.parts_found.ensures)

pub form_found-returns-in_ok-head_found-in-Post : goal.form_found-returns-in_ok-head_found-in-Post
form_found-returns-in_ok-head_found-in-Post t c = rw (c.in-Post.is, form-Post, steps_flat) (rw (c.in_ok-head_found-in-Post.ensures, append_assoc, c.get-in-Post.ensures, c.as_slice-in-Post.ensures, c.as_slice-in-Post-2.ensures) at c.suffixes_found.ensures)

pub form_found-returns-in-Prefix : goal.form_found-returns-in-Prefix
form_found-returns-in-Prefix t c = rw (c.in-Prefix.is, form-Prefix) (rw (c.get-in-Prefix.ensures) at c.expr_found-in-Prefix.ensures)

pub form_found-returns-in_ok-expr_found-in-Assignment : goal.form_found-returns-in_ok-expr_found-in-Assignment
form_found-returns-in_ok-expr_found-in-Assignment t c = rw (c.in-Assignment.is, form-Assignment) (rw (c.in_ok-expr_found-in-Assignment.ensures, append_assoc, c.get-in-Assignment.ensures, c.get-in-Assignment-2.ensures) at c.expr_found-in-Assignment-2.ensures)

pub form_found-returns-in_ok-expr_found-in-Chain : goal.form_found-returns-in_ok-expr_found-in-Chain
form_found-returns-in_ok-expr_found-in-Chain t c = rw (c.in-Chain.is, form-Chain, operations_flat) (rw (c.in_ok-expr_found-in-Chain.ensures, append_assoc, c.get-in-Chain.ensures, c.as_slice-in-Chain.ensures) at c.operations_found.ensures)

pub form_found-returns-in_ok-expr_found-in-Binary : goal.form_found-returns-in_ok-expr_found-in-Binary
form_found-returns-in_ok-expr_found-in-Binary t c = rw (c.in-Binary.is, form-Binary) (rw (c.in_ok-expr_found-in-Binary.ensures, append_assoc, c.get-in-Binary.ensures, c.get-in-Binary-2.ensures) at c.expr_found-in-Binary-2.ensures)

pub form_found-returns-in_ok-expr_found-in-Conditional-2 : goal.form_found-returns-in_ok-expr_found-in-Conditional-2
form_found-returns-in_ok-expr_found-in-Conditional-2 t c =
    rw (c.in-Conditional.is, form-Conditional, append_assoc) (rw (c.in_ok-expr_found-in-Conditional-2.ensures, append_assoc, c.in_ok-expr_found-in-Conditional.ensures, append_assoc, c.get-in-Conditional.ensures, c.get-in-Conditional-2.ensures, c.get-in-Conditional-3.ensures) at c.expr_found-in-Conditional-3.ensures)

pub member_found-returns-in-Named : goal.member_found-returns-in-Named
member_found-returns-in-Named t c = rw (c.in-Named.is, member-Named) (none (map found_of c.args.found.now.items))

pub member_found-returns-in-Computed : goal.member_found-returns-in-Computed
member_found-returns-in-Computed t c = rw (c.in-Computed.is, member-Computed) (rw (c.get.ensures) at c.expr_found.ensures)

pub parameter_found-returns-in-None : goal.parameter_found-returns-in-None
parameter_found-returns-in-None t c = rw (parameter_fields, c.in-None.is) (none (map found_of c.args.found.now.items))

pub parameter_found-returns-in-Some : goal.parameter_found-returns-in-Some
parameter_found-returns-in-Some t c = rw (parameter_fields, c.in-Some.is) (rw c.get.ensures at c.expr_found.ensures)

pub part_found-returns-in-Token : goal.part_found-returns-in-Token
part_found-returns-in-Token t c = rw (c.in-Token.is, part-Token) (none (map found_of c.args.found.now.items))

pub part_found-returns-in-Expression : goal.part_found-returns-in-Expression
part_found-returns-in-Expression t c = rw (c.in-Expression.is, part-Expression) c.expr_found.ensures

pub suffix_found-returns-in-Push : goal.suffix_found-returns-in-Push
suffix_found-returns-in-Push t c = rw (c.in-Push.is, suffix-Push) (none (map found_of c.args.found.now.items))

pub suffix_found-returns-in-Increment : goal.suffix_found-returns-in-Increment
suffix_found-returns-in-Increment t c = rw (c.in-Increment.is, suffix-Increment) (none (map found_of c.args.found.now.items))

pub suffix_found-returns-in-Decrement : goal.suffix_found-returns-in-Decrement
suffix_found-returns-in-Decrement t c = rw (c.in-Decrement.is, suffix-Decrement) (none (map found_of c.args.found.now.items))

pub suffix_found-returns-in-Index : goal.suffix_found-returns-in-Index
suffix_found-returns-in-Index t c = rw (c.in-Index.is, suffix-Index) (rw (c.get.ensures) at c.expr_found.ensures)

pub suffix_found-returns-in_ok-member_found-in-Property : goal.suffix_found-returns-in_ok-member_found-in-Property
suffix_found-returns-in_ok-member_found-in-Property t c = rw (c.in-Property.is, suffix-Property) (rw (c.in_ok-member_found-in-Property.ensures, append_assoc) at c.called_found.ensures)

pub suffix_found-returns-in-Scoped : goal.suffix_found-returns-in-Scoped
suffix_found-returns-in-Scoped t c = rw (c.in-Scoped.is, suffix-Scoped) c.called_found-in-Scoped.ensures

pub suffix_found-returns-in-Call : goal.suffix_found-returns-in-Call
suffix_found-returns-in-Call t c = rw (c.in-Call.is, suffix-Call) c.arguments_found.ensures

pub operations_found-loop-operation-preserved : goal.operations_found-loop-operation-preserved
operations_found-loop-operation-preserved t c =
    let more = flat_more (λ x. operand_taken c.args.inner (operation_of x)) c.args.operations.now c.loop-operation.operation-index c.operation-item.result c.loop-operation-test.true c.operation-item.is in
    rw more (rw (c.loop-operation.invariant, append_assoc) at c.in_ok-operation_found.ensures)

pub operation_found-returns-then-names_class : goal.operation_found-returns-then-names_class
operation_found-returns-then-names_class t c = rw (operation_fields, sym (c.if-names_class.ensures)) (none (map found_of c.args.found.now.items))

pub operation_found-returns : goal.operation_found-returns
operation_found-returns t c = rw (operation_fields, sym (c.if-names_class.ensures)) c.expr_found.ensures

pub form_found-returns-in-Closure : goal.form_found-returns-in-Closure
form_found-returns-in-Closure t c = rw (c.in-Closure.is, form-Closure, items_flat) (rw c.as_slice-in-Closure.ensures at c.parameters_found.ensures)
