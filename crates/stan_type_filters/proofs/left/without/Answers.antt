use Rattle.std.proofs.Common.{◌≡◌, map, ap, subst, sym, ◌∙◌}
use Rattle.std.specs.List.{flat_map}
use Rattle.stan_model_types.specs.Types as model
use Rattle.stan_model_types.specs.TypeFilters.{left, narrows}
use Rattle.stan_type_laws.specs.Settled.{HaveNumbers}
use Rattle.stan_type_laws.proofs.Again.{have_numbers}
use Rattle.stan_type_parts.specs.Parts.{part_of}
use Rattle.stan_type_order.proofs.Encodings.{parts-of_parts}
use Rattle.stan_type_filters.specs.Filters.{filter_of}
use Rattle.stan_type_filters.proofs.Lists.{narrowed}
use Rattle.stan_type_filters.proofs.left.without.Goals as goal

pub left_parts-requires : goal.left_parts-requires
left_parts-requires c =
    let first : map part_of c.parts.result.now ≡ model.parts c.args.t.now = sym (parts-of_parts (map part_of c.parts.result.now)) ∙ ap model.parts c.parts.ensures.value in
    subst HaveNumbers (sym first) (have_numbers c.args.t.now c.parts.ensures.normal)

pub returns-in_ok-left : goal.returns-in_ok-left
returns-in_ok-left c =
    let first : map part_of c.parts.result.now ≡ model.parts c.args.t.now = sym (parts-of_parts (map part_of c.parts.result.now)) ∙ ap model.parts c.parts.ensures.value in
    narrowed (narrows (filter_of c.args.f.now)) c.args.t.now c.in_ok-left.left (map part_of c.in_ok-parts.parts.items) (flat_map (left (filter_of c.args.f.now)) (model.parts c.args.t.now))
    (sym c.narrows.ensures ∙ c.if-narrows.true) (rw c.as_slice.ensures.value at c.in_ok-left.ensures) (c.in_ok-parts.ensures ∙ ap (flat_map (left (filter_of c.args.f.now))) first)
