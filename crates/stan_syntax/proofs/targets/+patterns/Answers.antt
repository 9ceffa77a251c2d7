use Rattle.std.proofs.Common.{refl, sym, ◌∙◌}
use Rattle.stan_syntax.specs.Tree.{element_of}
use Rattle.stan_syntax.proofs.TargetLemmas.{array_pattern, pattern_here, pattern_more}
use Rattle.stan_syntax.proofs.Layers.{element-Keyed, element-Spread, element-Value, tree_fields, form-Leaf, form-Brackets, form-Array, form-IsSet, form-Empty, form-Exit, form-New, form-Match, form-Closure, form-Arrow, form-Text, form-Post, form-Prefix, form-Assignment, form-Chain, form-Binary, form-Conditional}
use Rattle.stan_syntax.proofs.targets.+patterns.Goals as goal

pub is_pattern-returns-in-Leaf : goal.is_pattern-returns-in-Leaf
is_pattern-returns-in-Leaf t c = rw (tree_fields, c.in-Leaf.is, form-Leaf) refl

pub is_pattern-returns-in-Brackets : goal.is_pattern-returns-in-Brackets
is_pattern-returns-in-Brackets t c = rw (tree_fields, c.in-Brackets.is, form-Brackets) refl

pub is_pattern-returns-in-Array : goal.is_pattern-returns-in-Array
is_pattern-returns-in-Array t c = rw (tree_fields, c.in-Array.is, form-Array, array_pattern, ← c.as_slice.ensures) c.is_pattern_array.ensures

pub is_pattern-returns-in-IsSet : goal.is_pattern-returns-in-IsSet
is_pattern-returns-in-IsSet t c = rw (tree_fields, c.in-IsSet.is, form-IsSet) refl

pub is_pattern-returns-in-Empty : goal.is_pattern-returns-in-Empty
is_pattern-returns-in-Empty t c = rw (tree_fields, c.in-Empty.is, form-Empty) refl

pub is_pattern-returns-in-Exit : goal.is_pattern-returns-in-Exit
is_pattern-returns-in-Exit t c = rw (tree_fields, c.in-Exit.is, form-Exit) refl

pub is_pattern-returns-in-New : goal.is_pattern-returns-in-New
is_pattern-returns-in-New t c = rw (tree_fields, c.in-New.is, form-New) refl

pub is_pattern-returns-in-Match : goal.is_pattern-returns-in-Match
is_pattern-returns-in-Match t c = rw (tree_fields, c.in-Match.is, form-Match) refl

pub is_pattern-returns-in-Closure : goal.is_pattern-returns-in-Closure
is_pattern-returns-in-Closure t c = rw (tree_fields, c.in-Closure.is, form-Closure) refl

pub is_pattern-returns-in-Arrow : goal.is_pattern-returns-in-Arrow
is_pattern-returns-in-Arrow t c = rw (tree_fields, c.in-Arrow.is, form-Arrow) refl

pub is_pattern-returns-in-Text : goal.is_pattern-returns-in-Text
is_pattern-returns-in-Text t c = rw (tree_fields, c.in-Text.is, form-Text) refl

pub is_pattern-returns-in-Post : goal.is_pattern-returns-in-Post
is_pattern-returns-in-Post t c = rw (tree_fields, c.in-Post.is, form-Post) refl

pub is_pattern-returns-in-Prefix : goal.is_pattern-returns-in-Prefix
is_pattern-returns-in-Prefix t c = rw (tree_fields, c.in-Prefix.is, form-Prefix) refl

pub is_pattern-returns-in-Assignment : goal.is_pattern-returns-in-Assignment
is_pattern-returns-in-Assignment t c = rw (tree_fields, c.in-Assignment.is, form-Assignment) refl

pub is_pattern-returns-in-Chain : goal.is_pattern-returns-in-Chain
is_pattern-returns-in-Chain t c = rw (tree_fields, c.in-Chain.is, form-Chain) refl

pub is_pattern-returns-in-Binary : goal.is_pattern-returns-in-Binary
is_pattern-returns-in-Binary t c = rw (tree_fields, c.in-Binary.is, form-Binary) refl

pub is_pattern-returns-in-Conditional : goal.is_pattern-returns-in-Conditional
is_pattern-returns-in-Conditional t c = rw (tree_fields, c.in-Conditional.is, form-Conditional) refl

pub is_pattern_element-returns-in-Spread : goal.is_pattern_element-returns-in-Spread
is_pattern_element-returns-in-Spread t c = rw (c.in-Spread.is, element-Spread) refl

pub is_pattern_element-returns-in-Value : goal.is_pattern_element-returns-in-Value
is_pattern_element-returns-in-Value t c = rw (c.in-Value.is, element-Value) c.is_pattern.ensures

pub is_pattern_element-returns-in-Keyed : goal.is_pattern_element-returns-in-Keyed
is_pattern_element-returns-in-Keyed t c = rw (c.in-Keyed.is, element-Keyed) c.is_pattern-in-Keyed.ensures

pub any_pattern-loop-element-preserved : goal.any_pattern-loop-element-preserved
any_pattern-loop-element-preserved t c = rw (pattern_more element_of c.args.elements.now c.loop-element.element-index c.element-item.result c.loop-element-test.true c.element-item.is, c.loop-element.invariant) (sym c.is_pattern_element.ensures ∙ c.if-is_pattern_element.false)

pub any_pattern-returns-then-is_pattern_element : goal.any_pattern-returns-then-is_pattern_element
any_pattern-returns-then-is_pattern_element t c = sym (pattern_here element_of c.args.elements.now c.loop-element.element-index c.element-item.result c.loop-element-test.true c.element-item.is (sym c.is_pattern_element.ensures ∙ c.if-is_pattern_element.true))
