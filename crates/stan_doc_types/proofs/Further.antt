-- Further types, each behind its `&` or `|`.
use Rattle.std.proofs.Common.{◌≡◌, List}
use Rattle.std.specs.Prelude.{map}
use Rattle.stan_model_doc.specs.Rules as r
use Rattle.stan_model_doc.specs.Trees.{Forest}
use Rattle.stan_doc_trees.specs.declared.written.Intersection.{Intersection}
use Rattle.stan_doc_trees.specs.declared.written.Unary.{Unary}
use Rattle.stan_doc_trees.specs.Tree.{items, further, behind_mark, unary_of, intersection_of}
use Rattle.stan_doc_parts.proofs.Productions.{further_are}

pub and_parts : (xs : List Unary) (f : Forest) → items (map (λ x. behind_mark r.and_part (unary_of x)) xs) f ≡ further r.and_part (map unary_of xs) f
and_parts xs f = further_are r.and_part unary_of xs f

pub or_parts : (xs : List Intersection) (f : Forest) → items (map (λ x. behind_mark r.or_part (intersection_of x)) xs) f ≡ further r.or_part (map intersection_of xs) f
or_parts xs f = further_are r.or_part intersection_of xs f
