-- Further types and fields, each behind its comma.
use Rattle.std.proofs.Common.{◌≡◌, List}
use Rattle.std.specs.Prelude.{map}
use Rattle.stan_model_doc.specs.Rules as r
use Rattle.stan_model_doc.specs.Trees.{Forest}
use Rattle.stan_doc_trees.specs.declared.written.Field.{Field}
use Rattle.stan_doc_trees.specs.declared.written.Written.{Written}
use Rattle.stan_doc_trees.specs.Tree.{items, further, behind_mark, written_of, field_of}
use Rattle.stan_doc_parts.proofs.Productions.{further_are}

pub further_types : (xs : List Written) (f : Forest) → items (map (λ x. behind_mark r.further_type (written_of x)) xs) f ≡ further r.further_type (map written_of xs) f
further_types xs f = further_are r.further_type written_of xs f

pub further_fields : (xs : List Field) (f : Forest) → items (map (λ x. behind_mark r.further_field (field_of x)) xs) f ≡ further r.further_field (map field_of xs) f
further_fields xs f = further_are r.further_field field_of xs f
