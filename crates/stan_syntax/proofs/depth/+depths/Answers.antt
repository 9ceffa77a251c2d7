use Rattle.std.proofs.Common.{◌+◌, arith, sym}
use Rattle.stan_model_grammar.specs.Depth.{depth}
use Rattle.stan_syntax.specs.Tree.{operation_of}
use Rattle.stan_syntax.proofs.Depths.{greatest_more, items_greatest, operations_greatest, positional_greatest, statements_greatest, steps_greatest}
use Rattle.stan_syntax.proofs.Layers.{operation_fields, argument-Named, argument-Positional, argument-Spread, arguments_fields, arm-Conditions, arm-Default, body-Held, body-Read, class-Computed, class-Named, class-Scoped, class-Variable, element-Keyed, element-Spread, element-Value, form-Array, form-Arrow, form-Assignment, form-Binary, form-Brackets, form-Chain, form-Closure, form-Conditional, form-Empty, form-Exit, form-IsSet, form-Leaf, form-Match, form-New, form-Post, form-Prefix, form-Text, member-Computed, member-Named, parameter_fields, part-Expression, part-Token, statement-Expression, suffix-Call, suffix-Decrement, suffix-Increment, suffix-Index, suffix-Property, suffix-Push, suffix-Scoped, tree_fields}
use Rattle.stan_syntax.proofs.depth.+depths.Goals as goal

pub argument_depth-returns-in-Positional : goal.argument_depth-returns-in-Positional
argument_depth-returns-in-Positional t c = rw (c.in-Positional.is, argument-Positional) (grind arith)

pub argument_depth-returns-in-Spread : goal.argument_depth-returns-in-Spread
argument_depth-returns-in-Spread t c = rw (c.in-Spread.is, argument-Spread) (grind arith)

pub argument_depth-returns-in-Named : goal.argument_depth-returns-in-Named
argument_depth-returns-in-Named t c = rw (c.in-Named.is, argument-Named) (grind arith)

pub arguments_depth-returns : goal.arguments_depth-returns
arguments_depth-returns t c = rw (arguments_fields, items_greatest) (grind arith)

pub arm_depth-returns-in-Conditions : goal.arm_depth-returns-in-Conditions
arm_depth-returns-in-Conditions t c = rw (c.in-Conditions.is, arm-Conditions, positional_greatest) (grind arith)

pub arm_depth-returns-in-Default : goal.arm_depth-returns-in-Default
arm_depth-returns-in-Default t c = rw (c.in-Default.is, arm-Default) (grind arith)

pub body_depth-returns-in-Held : goal.body_depth-returns-in-Held
body_depth-returns-in-Held t c = rw (c.in-Held.is, body-Held) (grind arith)

pub body_depth-returns-in-Read : goal.body_depth-returns-in-Read
body_depth-returns-in-Read t c = rw (c.in-Read.is, body-Read, statements_greatest) (grind arith)

pub class_depth-returns-in-Named : goal.class_depth-returns-in-Named
class_depth-returns-in-Named t c = rw (c.in-Named.is, class-Named) (grind arith)

pub class_depth-returns-in-Variable : goal.class_depth-returns-in-Variable
class_depth-returns-in-Variable t c = rw (c.in-Variable.is, class-Variable, steps_greatest) (grind arith)

pub class_depth-returns-in-Scoped : goal.class_depth-returns-in-Scoped
class_depth-returns-in-Scoped t c = rw (c.in-Scoped.is, class-Scoped, steps_greatest) (grind arith)

pub class_depth-returns-in-Computed : goal.class_depth-returns-in-Computed
class_depth-returns-in-Computed t c = rw (c.in-Computed.is, class-Computed) (grind arith)

pub element_depth-returns-in-Spread : goal.element_depth-returns-in-Spread
element_depth-returns-in-Spread t c = rw (c.in-Spread.is, element-Spread) (grind arith)

pub element_depth-returns-in-Value : goal.element_depth-returns-in-Value
element_depth-returns-in-Value t c = rw (c.in-Value.is, element-Value) (grind arith)

pub element_depth-returns-in-Keyed : goal.element_depth-returns-in-Keyed
element_depth-returns-in-Keyed t c = rw (c.in-Keyed.is, element-Keyed) (grind arith)

pub expr_depth-returns : goal.expr_depth-returns
expr_depth-returns t c = rw tree_fields (grind arith)

pub form_depth-returns-in-Leaf : goal.form_depth-returns-in-Leaf
form_depth-returns-in-Leaf t c = rw (c.in-Leaf.is, form-Leaf) (grind arith)

pub form_depth-returns-in-Brackets : goal.form_depth-returns-in-Brackets
form_depth-returns-in-Brackets t c = rw (c.in-Brackets.is, form-Brackets) (grind arith)

pub form_depth-returns-in-Array : goal.form_depth-returns-in-Array
form_depth-returns-in-Array t c = rw (c.in-Array.is, form-Array, items_greatest) (grind arith)

pub form_depth-returns-in-IsSet : goal.form_depth-returns-in-IsSet
form_depth-returns-in-IsSet t c = rw (c.in-IsSet.is, form-IsSet, positional_greatest) (grind arith)

pub form_depth-returns-in-Empty : goal.form_depth-returns-in-Empty
form_depth-returns-in-Empty t c = rw (c.in-Empty.is, form-Empty) (grind arith)

pub form_depth-returns-in-Exit : goal.form_depth-returns-in-Exit
form_depth-returns-in-Exit t c = rw (c.in-Exit.is, form-Exit) (grind arith)

pub form_depth-returns-in-New : goal.form_depth-returns-in-New
form_depth-returns-in-New t c = rw (c.in-New.is, form-New) (grind arith)

pub form_depth-returns-in-Match : goal.form_depth-returns-in-Match
form_depth-returns-in-Match t c = rw (c.in-Match.is, form-Match, items_greatest) (grind arith)

pub form_depth-returns-in-Closure : goal.form_depth-returns-in-Closure
form_depth-returns-in-Closure t c = rw (c.in-Closure.is, form-Closure, items_greatest) (grind arith)

pub form_depth-returns-in-Arrow : goal.form_depth-returns-in-Arrow
form_depth-returns-in-Arrow t c = rw (c.in-Arrow.is, form-Arrow, items_greatest) (grind arith)

pub form_depth-returns-in-Text : goal.form_depth-returns-in-Text
form_depth-returns-in-Text t c = rw (c.in-Text.is, form-Text, steps_greatest) (grind arith)

pub form_depth-returns-in-Post : goal.form_depth-returns-in-Post
form_depth-returns-in-Post t c = rw (c.in-Post.is, form-Post, steps_greatest) (grind arith)

pub form_depth-returns-in-Prefix : goal.form_depth-returns-in-Prefix
form_depth-returns-in-Prefix t c = rw (c.in-Prefix.is, form-Prefix) (grind arith)

pub form_depth-returns-in-Assignment : goal.form_depth-returns-in-Assignment
form_depth-returns-in-Assignment t c = rw (c.in-Assignment.is, form-Assignment) (grind arith)

pub form_depth-returns-in-Chain : goal.form_depth-returns-in-Chain
form_depth-returns-in-Chain t c = rw (c.in-Chain.is, form-Chain, operations_greatest) (grind arith)

pub form_depth-returns-in-Binary : goal.form_depth-returns-in-Binary
form_depth-returns-in-Binary t c = rw (c.in-Binary.is, form-Binary) (grind arith)

pub form_depth-returns-in-Conditional : goal.form_depth-returns-in-Conditional
form_depth-returns-in-Conditional t c = rw (c.in-Conditional.is, form-Conditional) (grind arith)

pub left_depth-returns-then-is_operation : goal.left_depth-returns-then-is_operation
left_depth-returns-then-is_operation t c = rw (sym c.is_operation.ensures, c.if-is_operation.true, tree_fields) (grind arith)

pub left_depth-returns-else-is_operation : goal.left_depth-returns-else-is_operation
left_depth-returns-else-is_operation t c = rw (sym c.is_operation.ensures, c.if-is_operation.false, tree_fields) (grind arith)

pub member_depth-returns-in-Named : goal.member_depth-returns-in-Named
member_depth-returns-in-Named t c = rw (c.in-Named.is, member-Named) (grind arith)

pub member_depth-returns-in-Computed : goal.member_depth-returns-in-Computed
member_depth-returns-in-Computed t c = rw (c.in-Computed.is, member-Computed) (grind arith)

pub operations_depth-loop-operation-preserved : goal.operations_depth-loop-operation-preserved
operations_depth-loop-operation-preserved t c =
    rw (greatest_more (λ x. depth (operation_of x).operand + 1) c.args.operations.now c.loop-operation.operation-index c.operation-item.result c.loop-operation-test.true c.operation-item.is, operation_fields) (omega arith)

pub parameter_depth-returns-in-None : goal.parameter_depth-returns-in-None
parameter_depth-returns-in-None t c = rw (parameter_fields, c.in-None.is) (grind arith)

pub parameter_depth-returns-in-Some : goal.parameter_depth-returns-in-Some
parameter_depth-returns-in-Some t c = rw (parameter_fields, c.in-Some.is) (grind arith)

pub part_depth-returns-in-Token : goal.part_depth-returns-in-Token
part_depth-returns-in-Token t c = rw (c.in-Token.is, part-Token) (grind arith)

pub part_depth-returns-in-Expression : goal.part_depth-returns-in-Expression
part_depth-returns-in-Expression t c = rw (c.in-Expression.is, part-Expression) (grind arith)

pub statement_depth-returns : goal.statement_depth-returns
statement_depth-returns t c = grind (arith, statement-Expression)

pub suffix_depth-returns-in-Push : goal.suffix_depth-returns-in-Push
suffix_depth-returns-in-Push t c = rw (c.in-Push.is, suffix-Push) (grind arith)

pub suffix_depth-returns-in-Index : goal.suffix_depth-returns-in-Index
suffix_depth-returns-in-Index t c = rw (c.in-Index.is, suffix-Index) (grind arith)

pub suffix_depth-returns-in-Property : goal.suffix_depth-returns-in-Property
suffix_depth-returns-in-Property t c = rw (c.in-Property.is, suffix-Property) (grind arith)

pub suffix_depth-returns-in-Scoped : goal.suffix_depth-returns-in-Scoped
suffix_depth-returns-in-Scoped t c = rw (c.in-Scoped.is, suffix-Scoped) (grind arith)

pub suffix_depth-returns-in-Call : goal.suffix_depth-returns-in-Call
suffix_depth-returns-in-Call t c = rw (c.in-Call.is, suffix-Call) (grind arith)

pub suffix_depth-returns-in-Increment : goal.suffix_depth-returns-in-Increment
suffix_depth-returns-in-Increment t c = rw (c.in-Increment.is, suffix-Increment) (grind arith)

pub suffix_depth-returns-in-Decrement : goal.suffix_depth-returns-in-Decrement
suffix_depth-returns-in-Decrement t c = rw (c.in-Decrement.is, suffix-Decrement) (grind arith)
