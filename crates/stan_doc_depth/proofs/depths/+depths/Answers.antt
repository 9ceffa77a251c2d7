use Rattle.std.proofs.Common.{arith}
use Rattle.stan_doc_trees.proofs.Layers.{atom-This, atom-Literal, atom-Range, atom-Member}
use Rattle.stan_doc_depth.proofs.DepthLemmas.{conditional_depth, union_depth, intersection_whole, nullable_depth, suffixed_depth, group_depth, shape_depth, callable_depth, plain_callable_depth, plain_name_depth, name_depth, field_whole}
use Rattle.stan_doc_depth.proofs.depths.+depths.Goals as goal

pub written_depth-returns-in-Conditional : goal.written_depth-returns-in-Conditional
written_depth-returns-in-Conditional t c = rw (c.in-Conditional.is, conditional_depth) (grind arith)

pub written_depth-returns-in-Union : goal.written_depth-returns-in-Union
written_depth-returns-in-Union t c = rw (c.in-Union.is, union_depth) (grind arith)

pub unary_depth-returns-in-Nullable : goal.unary_depth-returns-in-Nullable
unary_depth-returns-in-Nullable t c = rw (c.in-Nullable.is, nullable_depth) (grind arith)

pub unary_depth-returns-in-Suffixed : goal.unary_depth-returns-in-Suffixed
unary_depth-returns-in-Suffixed t c = rw (c.in-Suffixed.is, suffixed_depth) (grind arith)

pub atom_depth-returns-in-Group : goal.atom_depth-returns-in-Group
atom_depth-returns-in-Group t c = rw (c.in-Group.is, group_depth) (grind arith)

pub atom_depth-returns-in-This : goal.atom_depth-returns-in-This
atom_depth-returns-in-This t c = rw (c.in-This.is, atom-This) (grind arith)

pub atom_depth-returns-in-Literal : goal.atom_depth-returns-in-Literal
atom_depth-returns-in-Literal t c = rw (c.in-Literal.is, atom-Literal) (grind arith)

pub atom_depth-returns-in-Shape : goal.atom_depth-returns-in-Shape
atom_depth-returns-in-Shape t c = rw (c.in-Shape.is, shape_depth) (grind arith)

pub atom_depth-returns-in-Range : goal.atom_depth-returns-in-Range
atom_depth-returns-in-Range t c = rw (c.in-Range.is, atom-Range) (grind arith)

pub atom_depth-returns-in-Member : goal.atom_depth-returns-in-Member
atom_depth-returns-in-Member t c = rw (c.in-Member.is, atom-Member) (grind arith)

pub atom_depth-returns-in-None : goal.atom_depth-returns-in-None
atom_depth-returns-in-None t c = rw (c.in-Callable.is, c.in-None.is, plain_callable_depth) (grind arith)

pub atom_depth-returns-in-Some : goal.atom_depth-returns-in-Some
atom_depth-returns-in-Some t c = rw (c.in-Callable.is, c.in-Some.is, callable_depth) (grind arith)

pub atom_depth-returns-then-len-eq0 : goal.atom_depth-returns-then-len-eq0
atom_depth-returns-then-len-eq0 t c =
    let none = plain_name_depth c.in-Name.name c.in-Name.arguments (omega (arith, c.len.ensures, c.if-len-eq0.true)) in
    rw (c.in-Name.is, none) (grind arith)

pub atom_depth-returns-else-len-eq0 : goal.atom_depth-returns-else-len-eq0
atom_depth-returns-else-len-eq0 t c =
    let some = name_depth c.in-Name.name c.in-Name.arguments (omega (arith, c.len.ensures, c.if-len-eq0.false)) in
    rw (c.in-Name.is, some) (grind arith)

pub field_depth-returns : goal.field_depth-returns
field_depth-returns t c = rw field_whole (grind arith)

pub intersection_depth-returns : goal.intersection_depth-returns
intersection_depth-returns t c = rw intersection_whole (grind arith)
