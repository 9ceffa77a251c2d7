use Rattle.std.proofs.Common.{◌≡◌, ◌+◌, ◌*◌, map, take}
use Rattle.stan_model_types.specs.Types.{of_parts, of_types, of_fields}
use Rattle.stan_model_types.specs.TypeLimits.{type_count, part_count, types_count, fields_count}
use Rattle.stan_type_parts.specs.Parts.{part_of, field_of, class_string_of}
use Rattle.stan_type_order.proofs.compare.+order.Given as goal

abbrev pub decreases-compare_parts : goal.decreases-compare_parts
decreases-compare_parts l = 14 * part_count (part_of l.a.now) + 12

abbrev pub decreases-compare_alike : goal.decreases-compare_alike
decreases-compare_alike l = 14 * part_count (part_of l.a.now) + 11

abbrev pub decreases-compare_object : goal.decreases-compare_object
decreases-compare_object l = 14 * types_count (of_types l.arguments.now) + 10

abbrev pub decreases-compare_template : goal.decreases-compare_template
decreases-compare_template l = 14 * type_count l.bound.now + 9

abbrev pub decreases-compare_bounds : goal.decreases-compare_bounds
decreases-compare_bounds l = 14 * type_count l.a.now + 8

abbrev pub decreases-compare_array : goal.decreases-compare_array
decreases-compare_array l = 14 * (type_count l.key.now + type_count l.value.now) + 9

abbrev pub decreases-compare_shape : goal.decreases-compare_shape
decreases-compare_shape l = 14 * fields_count (of_fields (map field_of l.fields.now)) + 9

abbrev pub decreases-compare_class_string : goal.decreases-compare_class_string
decreases-compare_class_string l = 14 * part_count (class_string_of l.class.now) + 9

abbrev pub decreases-compare_classes : goal.decreases-compare_classes
decreases-compare_classes l = 14 * part_count (class_string_of l.a.now) + 8

abbrev pub decreases-compare_arguments : goal.decreases-compare_arguments
decreases-compare_arguments l = 14 * types_count (of_types l.a.now) + 8

abbrev pub decreases-compare_all_types : goal.decreases-compare_all_types
decreases-compare_all_types l = 14 * types_count (of_types l.a.now) + 7

abbrev pub decreases-compare_shapes : goal.decreases-compare_shapes
decreases-compare_shapes l = 14 * fields_count (of_fields (map field_of l.a.now)) + 8

abbrev pub decreases-compare_all_fields : goal.decreases-compare_all_fields
decreases-compare_all_fields l = 14 * fields_count (of_fields (map field_of l.a.now)) + 7

abbrev pub decreases-compare_fields : goal.decreases-compare_fields
decreases-compare_fields l = 14 * type_count l.a.now.value + 6

abbrev pub decreases-compare_values : goal.decreases-compare_values
decreases-compare_values l = 14 * type_count l.a.now + 5

abbrev pub decreases-compare_types : goal.decreases-compare_types
decreases-compare_types l = 14 * type_count l.a.now + 3

abbrev pub decreases-compare_all_parts : goal.decreases-compare_all_parts
decreases-compare_all_parts l = 14 * type_count (of_parts (map part_of l.a.now)) + 1

abbrev pub invariant-compare_all_parts-loop-i : goal.invariant-compare_all_parts-loop-i
invariant-compare_all_parts-loop-i l = map part_of (take l.i l.a) ≡ map part_of (take l.i l.b)

abbrev pub invariant-compare_all_types-loop-i : goal.invariant-compare_all_types-loop-i
invariant-compare_all_types-loop-i l = take l.i l.a ≡ take l.i l.b

abbrev pub invariant-compare_all_fields-loop-i : goal.invariant-compare_all_fields-loop-i
invariant-compare_all_fields-loop-i l = map field_of (take l.i l.a) ≡ map field_of (take l.i l.b)

abbrev pub decreases-compare_lists : goal.decreases-compare_lists
decreases-compare_lists l = 14 * type_count (of_parts (map part_of l.a.now)) + 2

abbrev pub decreases-compare_named : goal.decreases-compare_named
decreases-compare_named l = 14 * types_count (of_types l.arguments.now) + 9
