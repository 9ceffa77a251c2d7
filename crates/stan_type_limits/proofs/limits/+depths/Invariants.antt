use Rattle.std.proofs.Common.{◌≡◌, ◌+◌, ◌*◌, ◌-◌, ◌^◌, map, take, min}
use Rattle.stan_model_types.specs.Types.{of_parts, of_types, of_fields}
use Rattle.stan_model_types.specs.TypeLimits.{type_count, part_count, types_count, fields_count, type_depth, types_depth, fields_depth}
use Rattle.stan_type_parts.specs.Parts.{part_of, field_of, class_string_of}
use Rattle.stan_type_limits.proofs.limits.+depths.Given as goal

abbrev pub decreases-depth_of_part : goal.decreases-depth_of_part
decreases-depth_of_part l = 8 * part_count (part_of l.part.now) + 7

abbrev pub decreases-depth_of_class : goal.decreases-depth_of_class
decreases-depth_of_class l = 8 * part_count (class_string_of l.class.now) + 6

abbrev pub decreases-depth_of_types : goal.decreases-depth_of_types
decreases-depth_of_types l = 8 * types_count (of_types l.types.now) + 5

abbrev pub decreases-depth_of_fields : goal.decreases-depth_of_fields
decreases-depth_of_fields l = 8 * fields_count (of_fields (map field_of l.fields.now)) + 5

abbrev pub decreases-depth_inside : goal.decreases-depth_inside
decreases-depth_inside l = 8 * type_count l.t.now + 2

abbrev pub decreases-depth_of_parts : goal.decreases-depth_of_parts
decreases-depth_of_parts l = 8 * type_count (of_parts (map part_of l.parts.now)) + 1

abbrev pub invariant-depth_of_parts-loop-part : goal.invariant-depth_of_parts-loop-part
invariant-depth_of_parts-loop-part l = l.most ≡ min (type_depth (of_parts (map part_of (take l.part-index l.parts)))) (2 ^ 32 - 1)

abbrev pub invariant-depth_of_types-loop-t : goal.invariant-depth_of_types-loop-t
invariant-depth_of_types-loop-t l = l.most ≡ min (types_depth (of_types (take l.t-index l.types))) (2 ^ 32 - 1)

abbrev pub invariant-depth_of_fields-loop-field : goal.invariant-depth_of_fields-loop-field
invariant-depth_of_fields-loop-field l = l.most ≡ min (fields_depth (of_fields (map field_of (take l.field-index l.fields)))) (2 ^ 32 - 1)
