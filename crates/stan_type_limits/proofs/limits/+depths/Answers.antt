use Rattle.std.proofs.Common.{◌≡◌, ◌+◌, ◌<◌, length, map, ap, sym, ◌∙◌, arith}
use Rattle.std.proofs.lemmas.Bool.Decides.{nat_tests}
use Rattle.stan_model_types.specs.Types.{of_parts}
use Rattle.stan_model_types.specs.TypeLimits.{inner_depth, type_depth}
use Rattle.stan_type_parts.specs.Parts.{part_of}
use Rattle.stan_type_parts.proofs.Steps.{field_within, part_within, type_within}
use Rattle.stan_type_limits.proofs.More.{depth_fields, depth_parts, depth_types, one_deeper}
use Rattle.stan_type_limits.proofs.limits.+depths.Goals as goal

pub depth_of_fields-depth_inside-requires : goal.depth_of_fields-depth_inside-requires
depth_of_fields-depth_inside-requires t c = (omega (arith, field_within c.args.fields.now c.loop-field.field-index c.field-item.result c.loop-field-test.true c.field-item.is), tt)

pub depth_of_parts-depth_of_part-requires : goal.depth_of_parts-depth_of_part-requires
depth_of_parts-depth_of_part-requires t c = (omega (arith, part_within c.args.parts.now c.loop-part.part-index c.part-item.result c.loop-part-test.true c.part-item.is), tt)

pub depth_of_types-depth_inside-requires : goal.depth_of_types-depth_inside-requires
depth_of_types-depth_inside-requires t c = (omega (arith, type_within c.args.types.now c.loop-t.t-index c.t-item.result c.loop-t-test.true c.t-item.is), tt)

pub depth_of_fields-loop-field-preserved : goal.depth_of_fields-loop-field-preserved
depth_of_fields-loop-field-preserved t c = rw (depth_fields c.args.fields.now c.loop-field.field-index c.field-item.result c.loop-field-test.true c.field-item.is) (omega arith)

pub depth_of_parts-loop-part-preserved : goal.depth_of_parts-loop-part-preserved
depth_of_parts-loop-part-preserved t c = rw (depth_parts c.args.parts.now c.loop-part.part-index c.part-item.result c.loop-part-test.true c.part-item.is) (omega arith)

pub depth_of_types-loop-t-preserved : goal.depth_of_types-loop-t-preserved
depth_of_types-loop-t-preserved t c = rw (depth_types c.args.types.now c.loop-t.t-index c.t-item.result c.loop-t-test.true c.t-item.is) (omega arith)

pub depth_inside-returns-else-is_empty : goal.depth_inside-returns-else-is_empty
depth_inside-returns-else-is_empty t c =
    let some : 0 < length c.parts-parts.result.now = grind (arith, nat_tests) in
    let deeper : inner_depth c.args.t.now ≡ 1 + type_depth (of_parts (map part_of c.parts-parts.result.now)) = ap inner_depth (sym c.parts-parts.ensures.value) ∙ one_deeper c.parts-parts.result.now some in
    omega (arith, deeper)
