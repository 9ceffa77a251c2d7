use Rattle.std.proofs.Common.{◌≡◌, ◌≤◌, ◌+◌, ◌*◌, ◌++◌, map, drop, string_bytes}
use Rattle.stan_model_types.specs.Types.{of_parts, of_types, of_fields}
use Rattle.stan_model_types.specs.TypeLimits.{type_count, part_count, types_count, fields_count}
use Rattle.stan_model_types.specs.TypeTexts.{more_parts, more_types, more_fields}
use Rattle.stan_type_parts.specs.Parts.{part_of, field_of, class_string_of}
use Rattle.stan_type_text.proofs.parts.+texts.Given as goal

abbrev pub decreases-put_piece : goal.decreases-put_piece
decreases-put_piece l = 8 * part_count (part_of l.part.now) + 7

abbrev pub decreases-put_part : goal.decreases-put_part
decreases-put_part l = 8 * part_count (part_of l.part.now) + 6

abbrev pub decreases-put_object : goal.decreases-put_object
decreases-put_object l = 8 * types_count (of_types l.arguments.now) + 5

abbrev pub decreases-put_array : goal.decreases-put_array
decreases-put_array l = 8 * (type_count l.key.now + type_count l.value.now) + 5

abbrev pub decreases-put_array_key : goal.decreases-put_array_key
decreases-put_array_key l = 8 * type_count l.key.now + 3

abbrev pub decreases-put_shape : goal.decreases-put_shape
decreases-put_shape l = 8 * fields_count (of_fields (map field_of l.fields.now)) + 5

abbrev pub decreases-put_class_string : goal.decreases-put_class_string
decreases-put_class_string l = 8 * part_count (class_string_of l.class.now) + 5

abbrev pub decreases-put_class : goal.decreases-put_class
decreases-put_class l = 8 * type_count l.t.now + 3

abbrev pub decreases-put_more_types : goal.decreases-put_more_types
decreases-put_more_types l = 8 * types_count (of_types l.types.now) + 4

abbrev pub decreases-put_more_fields : goal.decreases-put_more_fields
decreases-put_more_fields l = 8 * fields_count (of_fields (map field_of l.fields.now)) + 4

abbrev pub decreases-put_field : goal.decreases-put_field
decreases-put_field l = 8 * type_count l.field.now.value + 3

abbrev pub decreases-put_type : goal.decreases-put_type
decreases-put_type l = 8 * type_count l.t.now + 2

abbrev pub decreases-put_more_parts : goal.decreases-put_more_parts
decreases-put_more_parts l = 8 * type_count (of_parts (map part_of l.parts.now)) + 1

abbrev pub decreases-put_more_parts-loop-part : goal.decreases-put_more_parts-loop-part
decreases-put_more_parts-loop-part l = type_count (of_parts (map part_of l.rest))

abbrev pub invariant-put_more_parts-loop-part : goal.invariant-put_more_parts-loop-part
invariant-put_more_parts-loop-part l = record {
  text : string_bytes l.out ++ more_parts (of_parts (map part_of l.rest)) l.before ≡ string_bytes l.initial.out ++ more_parts (of_parts (map part_of l.initial.rest)) l.initial.before;
  within : type_count (of_parts (map part_of l.rest)) ≤ type_count (of_parts (map part_of l.initial.rest));
}

abbrev pub invariant-put_more_types-loop-t : goal.invariant-put_more_types-loop-t
invariant-put_more_types-loop-t l = string_bytes l.out ++ more_types (of_types (drop l.t-index l.types)) ≡ string_bytes l.initial.out ++ more_types (of_types l.types)

abbrev pub invariant-put_more_fields-loop-field : goal.invariant-put_more_fields-loop-field
invariant-put_more_fields-loop-field l = string_bytes l.out ++ more_fields (of_fields (map field_of (drop l.field-index l.fields))) ≡ string_bytes l.initial.out ++ more_fields (of_fields (map field_of l.fields))
