use Rattle.std.proofs.Common.{refl}
use Rattle.stan_syntax.proofs.Layers.{tree_fields, form-Leaf, form-Brackets, form-Array, form-IsSet, form-Empty, form-Exit, form-New, form-Match, form-Closure, form-Arrow, form-Text, form-Post, form-Prefix, form-Assignment, form-Chain, form-Binary, form-Conditional}
use Rattle.stan_expr_walk.proofs.names.text.Goals as goal

pub returns-in-Leaf : goal.returns-in-Leaf
returns-in-Leaf c = rw (tree_fields, c.in-Leaf.is, form-Leaf) c.leaf_text.ensures

pub returns-in-Brackets : goal.returns-in-Brackets
returns-in-Brackets c = rw (tree_fields, c.in-Brackets.is, form-Brackets) refl

pub returns-in-Array : goal.returns-in-Array
returns-in-Array c = rw (tree_fields, c.in-Array.is, form-Array) refl

pub returns-in-IsSet : goal.returns-in-IsSet
returns-in-IsSet c = rw (tree_fields, c.in-IsSet.is, form-IsSet) refl

pub returns-in-Empty : goal.returns-in-Empty
returns-in-Empty c = rw (tree_fields, c.in-Empty.is, form-Empty) refl

pub returns-in-Exit : goal.returns-in-Exit
returns-in-Exit c = rw (tree_fields, c.in-Exit.is, form-Exit) refl

pub returns-in-New : goal.returns-in-New
returns-in-New c = rw (tree_fields, c.in-New.is, form-New) refl

pub returns-in-Match : goal.returns-in-Match
returns-in-Match c = rw (tree_fields, c.in-Match.is, form-Match) refl

pub returns-in-Closure : goal.returns-in-Closure
returns-in-Closure c = rw (tree_fields, c.in-Closure.is, form-Closure) refl

pub returns-in-Arrow : goal.returns-in-Arrow
returns-in-Arrow c = rw (tree_fields, c.in-Arrow.is, form-Arrow) refl

pub returns-in-Text : goal.returns-in-Text
returns-in-Text c = rw (tree_fields, c.in-Text.is, form-Text) refl

pub returns-in-Post : goal.returns-in-Post
returns-in-Post c = rw (tree_fields, c.in-Post.is, form-Post) refl

pub returns-in-Prefix : goal.returns-in-Prefix
returns-in-Prefix c = rw (tree_fields, c.in-Prefix.is, form-Prefix) refl

pub returns-in-Assignment : goal.returns-in-Assignment
returns-in-Assignment c = rw (tree_fields, c.in-Assignment.is, form-Assignment) refl

pub returns-in-Chain : goal.returns-in-Chain
returns-in-Chain c = rw (tree_fields, c.in-Chain.is, form-Chain) refl

pub returns-in-Binary : goal.returns-in-Binary
returns-in-Binary c = rw (tree_fields, c.in-Binary.is, form-Binary) refl

pub returns-in-Conditional : goal.returns-in-Conditional
returns-in-Conditional c = rw (tree_fields, c.in-Conditional.is, form-Conditional) refl
