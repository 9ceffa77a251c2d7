use Rattle.std.proofs.Common.{◌≡◌, ◌+◌, ◌*◌, ◌-◌, ◌^◌, map, take, min}
use Rattle.stan_model_types.specs.Types.{of_parts, of_types, of_fields}
use Rattle.stan_model_types.specs.TypeLimits.{type_count, part_count, types_count, fields_count}
use Rattle.stan_type_parts.specs.Parts.{part_of, field_of, class_string_of}
use Rattle.stan_type_limits.proofs.limits.+counts.Given as goal

abbrev pub decreases-count_part : goal.decreases-count_part
decreases-count_part l = 8 * part_count (part_of l.part.now) + 7

abbrev pub decreases-count_class : goal.decreases-count_class
decreases-count_class l = 8 * part_count (class_string_of l.class.now) + 6

abbrev pub decreases-count_types : goal.decreases-count_types
decreases-count_types l = 8 * types_count (of_types l.types.now) + 5

abbrev pub decreases-count_fields : goal.decreases-count_fields
decreases-count_fields l = 8 * fields_count (of_fields (map field_of l.fields.now)) + 5

abbrev pub decreases-count_type : goal.decreases-count_type
decreases-count_type l = 8 * type_count l.t.now + 2

abbrev pub decreases-count_parts : goal.decreases-count_parts
decreases-count_parts l = 8 * type_count (of_parts (map part_of l.parts.now)) + 1

abbrev pub invariant-count_parts-loop-part : goal.invariant-count_parts-loop-part
invariant-count_parts-loop-part l = l.total ≡ min (type_count (of_parts (map part_of (take l.part-index l.parts)))) (2 ^ 32 - 1)

abbrev pub invariant-count_types-loop-t : goal.invariant-count_types-loop-t
invariant-count_types-loop-t l = l.total ≡ min (types_count (of_types (take l.t-index l.types))) (2 ^ 32 - 1)

abbrev pub invariant-count_fields-loop-field : goal.invariant-count_fields-loop-field
invariant-count_fields-loop-field l = l.total ≡ min (fields_count (of_fields (map field_of (take l.field-index l.fields)))) (2 ^ 32 - 1)
