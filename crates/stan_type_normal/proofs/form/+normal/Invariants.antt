use Rattle.std.proofs.Common.{◌≡◌, ◌+◌, ◌*◌, map, take}
use Rattle.std.specs.Prelude.{None, option_map}
use Rattle.std.specs.List.{flat_map}
use Rattle.stan_model_types.specs.NormalForms.{join_onto, joined_tables, key_types, mended, normal_within, put_all, tables_of, value_types}
use Rattle.stan_model_types.specs.TypeBytes.{part_order}
use Rattle.stan_model_types.specs.Types.{of_fields}
use Rattle.stan_type_parts.specs.Parts.{field_of, part_of}
use Rattle.stan_type_normal.specs.Table.{table_of}
use Rattle.stan_type_normal.proofs.form.+normal.Given as goal

abbrev pub decreases-normal : goal.decreases-normal
decreases-normal l = 20 * l.levels + 2

abbrev pub decreases-normal_parts : goal.decreases-normal_parts
decreases-normal_parts l = 20 * l.levels + 1

abbrev pub decreases-gather : goal.decreases-gather
decreases-gather l = 20 * l.inner + 19

abbrev pub decreases-add_mended : goal.decreases-add_mended
decreases-add_mended l = 20 * l.inner + 18

abbrev pub decreases-mend : goal.decreases-mend
decreases-mend l = 20 * l.inner + 17

abbrev pub decreases-mend_shape : goal.decreases-mend_shape
decreases-mend_shape l = 20 * l.inner + 16

abbrev pub decreases-settle : goal.decreases-settle
decreases-settle l = 20 * l.inner + 19

abbrev pub decreases-settle_kinds : goal.decreases-settle_kinds
decreases-settle_kinds l = 20 * l.inner + 18

abbrev pub decreases-add_arrays : goal.decreases-add_arrays
decreases-add_arrays l = 20 * l.inner + 17

abbrev pub decreases-joined_tables : goal.decreases-joined_tables
decreases-joined_tables l = 20 * l.inner + 16

abbrev pub decreases-with_part : goal.decreases-with_part
decreases-with_part l = 20 * l.inner + 15

abbrev pub decreases-with_table : goal.decreases-with_table
decreases-with_table l = 20 * l.inner + 14

abbrev pub decreases-as_table : goal.decreases-as_table
decreases-as_table l = 20 * l.inner + 14

abbrev pub decreases-shape_table : goal.decreases-shape_table
decreases-shape_table l = 20 * l.inner + 13

abbrev pub decreases-join_keys : goal.decreases-join_keys
decreases-join_keys l = 20 * l.inner + 12

abbrev pub decreases-join_more_keys : goal.decreases-join_more_keys
decreases-join_more_keys l = 20 * l.inner + 11

abbrev pub decreases-join_values : goal.decreases-join_values
decreases-join_values l = 20 * l.inner + 12

abbrev pub decreases-join_more_values : goal.decreases-join_more_values
decreases-join_more_values l = 20 * l.inner + 11

abbrev pub decreases-key_type : goal.decreases-key_type
decreases-key_type l = 20 * l.inner + 10

abbrev pub decreases-join : goal.decreases-join
decreases-join l = 20 * l.inner + 9

abbrev pub invariant-gather-loop-part : goal.invariant-gather-loop-part
invariant-gather-loop-part l = map part_of l.out.items ≡ put_all part_order (flat_map (mended (normal_within l.inner)) (map part_of (take l.part-index l.parts))) (map part_of l.initial.out.items)

abbrev pub invariant-join_more_keys-loop-field : goal.invariant-join_more_keys-loop-field
invariant-join_more_keys-loop-field l = l.joined ≡ join_onto (normal_within l.inner) l.initial.joined (key_types (normal_within l.inner) (of_fields (map field_of (take l.field-index l.fields))))

abbrev pub invariant-join_more_values-loop-field : goal.invariant-join_more_values-loop-field
invariant-join_more_values-loop-field l = l.joined ≡ join_onto (normal_within l.inner) l.initial.joined (value_types (of_fields (map field_of (take l.field-index l.fields))))

abbrev pub invariant-joined_tables-loop-part : goal.invariant-joined_tables-loop-part
invariant-joined_tables-loop-part l = option_map table_of l.found ≡ joined_tables (normal_within l.inner) None (flat_map (tables_of (normal_within l.inner)) (map part_of (take l.part-index l.parts)))
