use Rattle.std.proofs.Common.{◌≡◌, ◌+◌, ◌*◌, map, take}
use Rattle.stan_model_types.specs.Types.{of_parts, of_types, of_fields}
use Rattle.stan_model_types.specs.TypeLimits.{type_count, part_count, types_count, fields_count}
use Rattle.stan_type_parts.specs.Parts.{part_of, field_of, class_string_of}
use Rattle.stan_type_parts.proofs.copy.+copies.Given as goal

abbrev pub decreases-copy_part : goal.decreases-copy_part
decreases-copy_part l = 8 * part_count (part_of l.part.now) + 7

abbrev pub decreases-copy_object : goal.decreases-copy_object
decreases-copy_object l = 8 * types_count (of_types l.arguments.now) + 6

abbrev pub decreases-copy_template : goal.decreases-copy_template
decreases-copy_template l = 8 * type_count l.bound.now + 6

abbrev pub decreases-copy_array : goal.decreases-copy_array
decreases-copy_array l = 8 * (type_count l.key.now + type_count l.value.now) + 6

abbrev pub decreases-copy_class_string : goal.decreases-copy_class_string
decreases-copy_class_string l = 8 * part_count (class_string_of l.class.now) + 6

abbrev pub decreases-copy_types : goal.decreases-copy_types
decreases-copy_types l = 8 * types_count (of_types l.types.now) + 5

abbrev pub decreases-copy_fields : goal.decreases-copy_fields
decreases-copy_fields l = 8 * fields_count (of_fields (map field_of l.fields.now)) + 5

abbrev pub decreases-copy_field : goal.decreases-copy_field
decreases-copy_field l = 8 * type_count l.field.now.value + 4

abbrev pub decreases-copy_type : goal.decreases-copy_type
decreases-copy_type l = 8 * type_count l.t.now + 2

abbrev pub decreases-copy_parts : goal.decreases-copy_parts
decreases-copy_parts l = 8 * type_count (of_parts (map part_of l.parts.now)) + 1

abbrev pub invariant-copy_parts-loop-part : goal.invariant-copy_parts-loop-part
invariant-copy_parts-loop-part l = map part_of l.copies.items ≡ map part_of (take l.part-index l.parts)

abbrev pub invariant-copy_types-loop-t : goal.invariant-copy_types-loop-t
invariant-copy_types-loop-t l = l.copies.items ≡ take l.t-index l.types

abbrev pub invariant-copy_fields-loop-field : goal.invariant-copy_fields-loop-field
invariant-copy_fields-loop-field l = map field_of l.copies.items ≡ map field_of (take l.field-index l.fields)
