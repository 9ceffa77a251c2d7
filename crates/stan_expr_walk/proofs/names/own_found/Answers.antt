use Rattle.std.proofs.Common.{map}
use Rattle.stan_syntax.proofs.Layers.{tree_fields, form-Leaf, form-Brackets, form-Array, form-IsSet, form-Empty, form-Exit, form-New, form-Match, form-Closure, form-Arrow, form-Text, form-Post, form-Prefix, form-Assignment, form-Chain, form-Binary, form-Conditional}
use Rattle.stan_expr_walk.proofs.Lists.{none}
use Rattle.stan_expr_walk.specs.Found.{found_of}
use Rattle.stan_expr_walk.proofs.names.own_found.Goals as goal

pub returns-in-Leaf : goal.returns-in-Leaf
returns-in-Leaf c = rw (tree_fields, c.in-Leaf.is, form-Leaf) c.push_leaf.ensures

pub returns-in-Brackets : goal.returns-in-Brackets
returns-in-Brackets c = rw (tree_fields, c.in-Brackets.is, form-Brackets) (none (map found_of c.args.found.now.items))

pub returns-in-Array : goal.returns-in-Array
returns-in-Array c = rw (tree_fields, c.in-Array.is, form-Array) (none (map found_of c.args.found.now.items))

pub returns-in-IsSet : goal.returns-in-IsSet
returns-in-IsSet c = rw (tree_fields, c.in-IsSet.is, form-IsSet) (none (map found_of c.args.found.now.items))

pub returns-in-Empty : goal.returns-in-Empty
returns-in-Empty c = rw (tree_fields, c.in-Empty.is, form-Empty) (none (map found_of c.args.found.now.items))

pub returns-in-Exit : goal.returns-in-Exit
returns-in-Exit c = rw (tree_fields, c.in-Exit.is, form-Exit) (none (map found_of c.args.found.now.items))

pub returns-in-New : goal.returns-in-New
returns-in-New c = rw (tree_fields, c.in-New.is, form-New) (none (map found_of c.args.found.now.items))

pub returns-in-Match : goal.returns-in-Match
returns-in-Match c = rw (tree_fields, c.in-Match.is, form-Match) (none (map found_of c.args.found.now.items))

pub returns-in-Closure : goal.returns-in-Closure
returns-in-Closure c = rw (tree_fields, c.in-Closure.is, form-Closure) (none (map found_of c.args.found.now.items))

pub returns-in-Arrow : goal.returns-in-Arrow
returns-in-Arrow c = rw (tree_fields, c.in-Arrow.is, form-Arrow) (none (map found_of c.args.found.now.items))

pub returns-in-Text : goal.returns-in-Text
returns-in-Text c = rw (tree_fields, c.in-Text.is, form-Text) (none (map found_of c.args.found.now.items))

pub returns-in-Post : goal.returns-in-Post
returns-in-Post c = rw (tree_fields, c.in-Post.is, form-Post) (rw (c.get.ensures, c.as_slice.ensures) at c.push_called.ensures)

pub returns-in-Prefix : goal.returns-in-Prefix
returns-in-Prefix c = rw (tree_fields, c.in-Prefix.is, form-Prefix) (none (map found_of c.args.found.now.items))

pub returns-in-Assignment : goal.returns-in-Assignment
returns-in-Assignment c = rw (tree_fields, c.in-Assignment.is, form-Assignment) (none (map found_of c.args.found.now.items))

pub returns-in-Chain : goal.returns-in-Chain
returns-in-Chain c = rw (tree_fields, c.in-Chain.is, form-Chain) (none (map found_of c.args.found.now.items))

pub returns-in-Binary : goal.returns-in-Binary
returns-in-Binary c = rw (tree_fields, c.in-Binary.is, form-Binary) (none (map found_of c.args.found.now.items))

pub returns-in-Conditional : goal.returns-in-Conditional
returns-in-Conditional c = rw (tree_fields, c.in-Conditional.is, form-Conditional) (none (map found_of c.args.found.now.items))
