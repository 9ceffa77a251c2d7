use Rattle.std.proofs.Common.{arith}
use Rattle.stan_type_parts.proofs.Steps.{field_within, part_within, type_within}
use Rattle.stan_type_parts.proofs.copy.+copies.Goals as goal

pub copy_fields-copy_field-requires : goal.copy_fields-copy_field-requires
copy_fields-copy_field-requires t c =
    (omega (arith, field_within c.args.fields.now c.loop-field.field-index c.field-item.result c.loop-field-test.true c.field-item.is), tt)

pub copy_parts-copy_part-requires : goal.copy_parts-copy_part-requires
copy_parts-copy_part-requires t c =
    (omega (arith, part_within c.args.parts.now c.loop-part.part-index c.part-item.result c.loop-part-test.true c.part-item.is), tt)

pub copy_types-copy_type-requires : goal.copy_types-copy_type-requires
copy_types-copy_type-requires t c =
    (omega (arith, type_within c.args.types.now c.loop-t.t-index c.t-item.result c.loop-t-test.true c.t-item.is), tt)
