use Rattle.std.proofs.Common.{◌≡◌, map, ap, sym, ◌∙◌}
use Rattle.std.specs.List.{flat_map}
use Rattle.stan_model_types.specs.Types as model
use Rattle.stan_model_types.specs.TypeFilters.{kept, narrows}
use Rattle.stan_type_parts.specs.Parts.{part_of}
use Rattle.stan_type_order.proofs.Encodings.{parts-of_parts}
use Rattle.stan_type_filters.specs.Filters.{filter_of}
use Rattle.stan_type_filters.proofs.Lists.{narrowed}
use Rattle.stan_type_filters.proofs.kept.keep.Goals as goal

pub returns-in_ok-kept : goal.returns-in_ok-kept
returns-in_ok-kept c =
    let first : map part_of c.parts.result.now ≡ model.parts c.args.t.now = sym (parts-of_parts (map part_of c.parts.result.now)) ∙ ap model.parts c.parts.ensures.value in
    narrowed (narrows (filter_of c.args.f.now)) c.args.t.now c.in_ok-kept.kept (map part_of c.in_ok-parts.parts.items) (flat_map (kept (filter_of c.args.f.now)) (model.parts c.args.t.now))
    (sym c.narrows.ensures ∙ c.if-narrows.true) (rw c.as_slice.ensures.value at c.in_ok-kept.ensures) (c.in_ok-parts.ensures ∙ ap (flat_map (kept (filter_of c.args.f.now))) first)
