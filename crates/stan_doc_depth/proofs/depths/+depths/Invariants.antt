use Rattle.std.proofs.Common.{◌≡◌, ◌-◌, ◌^◌, take, min}
use Rattle.stan_doc_depth.specs.Depths.{piece_depth}
use Rattle.stan_doc_trees.specs.Tree.{field_of, intersection_of, unary_of, written_of}
use Rattle.stan_syntax.specs.Depth.{greatest}
use Rattle.stan_doc_depth.proofs.depths.+depths.Given as goal

abbrev pub invariant-writtens_depth-loop-written : goal.invariant-writtens_depth-loop-written
invariant-writtens_depth-loop-written l = l.most ≡ min (greatest (λ x. piece_depth (written_of x)) (take l.written-index l.types)) (2 ^ 32 - 1)

abbrev pub invariant-intersections_depth-loop-intersection : goal.invariant-intersections_depth-loop-intersection
invariant-intersections_depth-loop-intersection l = l.most ≡ min (greatest (λ x. piece_depth (intersection_of x)) (take l.intersection-index l.types)) (2 ^ 32 - 1)

abbrev pub invariant-unaries_depth-loop-unary : goal.invariant-unaries_depth-loop-unary
invariant-unaries_depth-loop-unary l = l.most ≡ min (greatest (λ x. piece_depth (unary_of x)) (take l.unary-index l.types)) (2 ^ 32 - 1)

abbrev pub invariant-fields_depth-loop-field : goal.invariant-fields_depth-loop-field
invariant-fields_depth-loop-field l = l.most ≡ min (greatest (λ x. piece_depth (field_of x)) (take l.field-index l.fields)) (2 ^ 32 - 1)
