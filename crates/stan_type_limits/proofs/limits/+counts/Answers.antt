use Rattle.std.proofs.Common.{arith}
use Rattle.stan_type_parts.proofs.Steps.{field_within, part_within, type_within}
use Rattle.stan_type_limits.proofs.More.{more_fields, more_parts, more_types}
use Rattle.stan_type_limits.proofs.limits.+counts.Goals as goal

pub count_fields-count_type-requires : goal.count_fields-count_type-requires
count_fields-count_type-requires t c = (omega (arith, field_within c.args.fields.now c.loop-field.field-index c.field-item.result c.loop-field-test.true c.field-item.is), tt)

pub count_parts-count_part-requires : goal.count_parts-count_part-requires
count_parts-count_part-requires t c = (omega (arith, part_within c.args.parts.now c.loop-part.part-index c.part-item.result c.loop-part-test.true c.part-item.is), tt)

pub count_types-count_type-requires : goal.count_types-count_type-requires
count_types-count_type-requires t c = (omega (arith, type_within c.args.types.now c.loop-t.t-index c.t-item.result c.loop-t-test.true c.t-item.is), tt)

pub count_fields-loop-field-preserved : goal.count_fields-loop-field-preserved
count_fields-loop-field-preserved t c = rw (more_fields c.args.fields.now c.loop-field.field-index c.field-item.result c.loop-field-test.true c.field-item.is) (omega arith)

pub count_parts-loop-part-preserved : goal.count_parts-loop-part-preserved
count_parts-loop-part-preserved t c = rw (more_parts c.args.parts.now c.loop-part.part-index c.part-item.result c.loop-part-test.true c.part-item.is) (omega arith)

pub count_types-loop-t-preserved : goal.count_types-loop-t-preserved
count_types-loop-t-preserved t c = rw (more_types c.args.types.now c.loop-t.t-index c.t-item.result c.loop-t-test.true c.t-item.is) (omega arith)
