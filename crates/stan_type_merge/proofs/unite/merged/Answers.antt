use Rattle.std.proofs.Common.{◌≡◌, List, ◌++◌, ap, map, sym, ◌∙◌}
use Rattle.stan_model_types.specs.Types as model
use Rattle.stan_type_order.proofs.Encodings.{parts-of_parts}
use Rattle.stan_type_parts.specs.Parts.{part_of}
use Rattle.stan_type_merge.specs.Merge.{merge}
use Rattle.stan_type_merge.proofs.Standing.{is_united, union_made}
use Rattle.stan_type_merge.proofs.unite.merged.Goals as goal

pub from_parts-requires : goal.from_parts-requires
from_parts-requires c =
    let first : map part_of c.parts-parts.result.now ≡ model.parts c.args.a.now = sym (parts-of_parts (map part_of c.parts-parts.result.now)) ∙ ap model.parts c.parts-parts.ensures.value in
    let second : map part_of c.parts-others.result.now ≡ model.parts c.args.b.now = sym (parts-of_parts (map part_of c.parts-others.result.now)) ∙ ap model.parts c.parts-others.ensures.value in
    let made : List model.Part = map part_of c.push_merged.new.out.items in
    let all : made ≡ merge (map part_of c.parts-parts.result.now) (map part_of c.parts-others.result.now) = c.in_ok-push_merged.ensures.appended ∙ ap (λ zs. map part_of zs ++ merge (map part_of c.parts-parts.result.now) (map part_of c.parts-others.result.now)) c.in_ok-made.ensures.items in
    is_united c.args.a.now c.args.b.now (map part_of c.parts-parts.result.now) (map part_of c.parts-others.result.now) made first second c.parts-parts.ensures.normal c.parts-others.ensures.normal all c.in_ok-push_merged.ensures.tied
    (rw c.as_slice.ensures.value at (sym c.stand_alone.ensures ∙ c.if-stand_alone.true)) (rw c.as_slice-then-stand_alone.ensures.value at (sym c.is_within.ensures ∙ c.if-is_within.true))

pub returns-then-is_within : goal.returns-then-is_within
returns-then-is_within c =
    let first : map part_of c.parts-parts.result.now ≡ model.parts c.args.a.now = sym (parts-of_parts (map part_of c.parts-parts.result.now)) ∙ ap model.parts c.parts-parts.ensures.value in
    let second : map part_of c.parts-others.result.now ≡ model.parts c.args.b.now = sym (parts-of_parts (map part_of c.parts-others.result.now)) ∙ ap model.parts c.parts-others.ensures.value in
    let made : List model.Part = map part_of c.push_merged.new.out.items in
    let all : made ≡ merge (map part_of c.parts-parts.result.now) (map part_of c.parts-others.result.now) = c.in_ok-push_merged.ensures.appended ∙ ap (λ zs. map part_of zs ++ merge (map part_of c.parts-parts.result.now) (map part_of c.parts-others.result.now)) c.in_ok-made.ensures.items in
    c.from_parts.ensures
    ∙ sym (union_made c.args.a.now c.args.b.now (map part_of c.parts-parts.result.now) (map part_of c.parts-others.result.now) made first second c.parts-parts.ensures.normal c.parts-others.ensures.normal all c.in_ok-push_merged.ensures.tied
    (rw c.as_slice.ensures.value at (sym c.stand_alone.ensures ∙ c.if-stand_alone.true)) (rw c.as_slice-then-stand_alone.ensures.value at (sym c.is_within.ensures ∙ c.if-is_within.true)))
