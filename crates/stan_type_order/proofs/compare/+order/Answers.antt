use Rattle.std.proofs.Common.{◌<◌, ◌++◌, ℕ, List, length, map, ap, arith}
use Rattle.std.specs.declared.cmp.Ordering.TheVariants.{Less, Greater}
use Rattle.stan_base.specs.Name.{name_bytes}
use Rattle.stan_model_types.specs.TypeBytes.{part_bytes, text_bytes, truth_bytes, type_bytes}
use Rattle.stan_type_parts.specs.Parts.{field_of, part_of}
use Rattle.stan_type_parts.proofs.Steps.{field_within, part_within, type_within}
use Rattle.stan_type_order.specs.Order.{Decides, field_bytes}
use Rattle.stan_type_order.proofs.Deciding.{decides_all, decides_at, decides_both, views_decide_at, views_decide_all, taken_all, less_unequal, greater_unequal}
use Rattle.stan_type_order.proofs.Encodings.{all_fields-flat, all_parts-flat, all_types-flat, arguments_bytes, decide_arguments, decide_shapes, decide_types}
use Rattle.stan_type_order.proofs.compare.+order.Goals as goal

-- ---- the lists inside

pub compare_all_fields-compare_fields-requires : goal.compare_all_fields-compare_fields-requires
compare_all_fields-compare_fields-requires t c = (omega (arith, field_within c.args.a.now c.loop-i.i c.index-a-i.result c.loop-i-test.true c.index-a-i.is), tt)

pub compare_all_fields-returns-in-Less-clause-decides : goal.compare_all_fields-returns-in-Less-clause-decides
compare_all_fields-returns-in-Less-clause-decides t c =
    rw (all_fields-flat c.args.a.now, all_fields-flat c.args.b.now)
    (views_decide_at field_bytes field_of c.args.a.now c.args.b.now c.loop-i.i c.index-a-i.result c.index-b-i.result Less c.loop-i-test.true c.requires c.index-a-i.is c.index-b-i.is c.loop-i.invariant c.in-Less.ensures.decides less_unequal)

pub compare_all_fields-returns-in-Greater-clause-decides : goal.compare_all_fields-returns-in-Greater-clause-decides
compare_all_fields-returns-in-Greater-clause-decides t c =
    rw (all_fields-flat c.args.a.now, all_fields-flat c.args.b.now)
    (views_decide_at field_bytes field_of c.args.a.now c.args.b.now c.loop-i.i c.index-a-i.result c.index-b-i.result Greater c.loop-i-test.true c.requires c.index-a-i.is c.index-b-i.is c.loop-i.invariant c.in-Greater.ensures.decides greater_unequal)

pub compare_all_fields-returns-clause-decides : goal.compare_all_fields-returns-clause-decides
compare_all_fields-returns-clause-decides t c =
    rw (all_fields-flat c.args.a.now, all_fields-flat c.args.b.now)
    (views_decide_all field_bytes field_of c.args.a.now c.args.b.now (taken_all field_of c.args.a.now c.args.b.now c.loop-i.i c.loop-i-test.false c.requires c.loop-i.invariant))

pub compare_all_parts-compare_parts-requires : goal.compare_all_parts-compare_parts-requires
compare_all_parts-compare_parts-requires t c = (omega (arith, part_within c.args.a.now c.loop-i.i c.index-a-i.result c.loop-i-test.true c.index-a-i.is), tt)

pub compare_all_parts-returns-in-Less-clause-decides : goal.compare_all_parts-returns-in-Less-clause-decides
compare_all_parts-returns-in-Less-clause-decides t c =
    rw (all_parts-flat c.args.a.now, all_parts-flat c.args.b.now)
    (views_decide_at part_bytes part_of c.args.a.now c.args.b.now c.loop-i.i c.index-a-i.result c.index-b-i.result Less c.loop-i-test.true c.requires c.index-a-i.is c.index-b-i.is c.loop-i.invariant c.in-Less.ensures.decides less_unequal)

pub compare_all_parts-returns-in-Greater-clause-decides : goal.compare_all_parts-returns-in-Greater-clause-decides
compare_all_parts-returns-in-Greater-clause-decides t c =
    rw (all_parts-flat c.args.a.now, all_parts-flat c.args.b.now)
    (views_decide_at part_bytes part_of c.args.a.now c.args.b.now c.loop-i.i c.index-a-i.result c.index-b-i.result Greater c.loop-i-test.true c.requires c.index-a-i.is c.index-b-i.is c.loop-i.invariant c.in-Greater.ensures.decides greater_unequal)

pub compare_all_parts-returns-clause-decides : goal.compare_all_parts-returns-clause-decides
compare_all_parts-returns-clause-decides t c =
    rw (all_parts-flat c.args.a.now, all_parts-flat c.args.b.now)
    (views_decide_all part_bytes part_of c.args.a.now c.args.b.now (taken_all part_of c.args.a.now c.args.b.now c.loop-i.i c.loop-i-test.false c.requires c.loop-i.invariant))

pub compare_all_types-compare_types-requires : goal.compare_all_types-compare_types-requires
compare_all_types-compare_types-requires t c = (omega (arith, type_within c.args.a.now c.loop-i.i c.index-a-i.result c.loop-i-test.true c.index-a-i.is), tt)

pub compare_all_types-returns-in-Less-clause-decides : goal.compare_all_types-returns-in-Less-clause-decides
compare_all_types-returns-in-Less-clause-decides t c =
    let under : c.loop-i.i < length c.args.b.now = omega arith in
    rw (all_types-flat c.args.a.now, all_types-flat c.args.b.now)
    (decides_at type_bytes c.args.a.now c.args.b.now c.loop-i.i c.index-a-i.result c.index-b-i.result Less c.loop-i-test.true under c.index-a-i.is c.index-b-i.is (ap (map type_bytes) c.loop-i.invariant) c.in-Less.ensures.decides less_unequal)

pub compare_all_types-returns-in-Greater-clause-decides : goal.compare_all_types-returns-in-Greater-clause-decides
compare_all_types-returns-in-Greater-clause-decides t c =
    let under : c.loop-i.i < length c.args.b.now = omega arith in
    rw (all_types-flat c.args.a.now, all_types-flat c.args.b.now)
    (decides_at type_bytes c.args.a.now c.args.b.now c.loop-i.i c.index-a-i.result c.index-b-i.result Greater c.loop-i-test.true under c.index-a-i.is c.index-b-i.is (ap (map type_bytes) c.loop-i.invariant) c.in-Greater.ensures.decides greater_unequal)

pub compare_all_types-returns-clause-decides : goal.compare_all_types-returns-clause-decides
compare_all_types-returns-clause-decides t c =
    rw (all_types-flat c.args.a.now, all_types-flat c.args.b.now)
    (decides_all type_bytes c.args.a.now c.args.b.now (taken_all type_bytes c.args.a.now c.args.b.now c.loop-i.i c.loop-i-test.false c.requires (ap (map type_bytes) c.loop-i.invariant)))

-- ---- a list behind its count

pub compare_types-returns-clause-decides : goal.compare_types-returns-clause-decides
compare_types-returns-clause-decides t c =
    decide_types c.compare_lists.result c.parts.result.now c.parts-2.result.now c.args.a.now c.args.b.now c.parts.ensures.value c.parts-2.ensures.value c.compare_lists.ensures.decides

pub compare_named-returns-in-Equal-clause-decides : goal.compare_named-returns-in-Equal-clause-decides
compare_named-returns-in-Equal-clause-decides t c =
    decides_both c.compare_arguments.result (text_bytes (name_bytes c.args.name.now)) (text_bytes (name_bytes c.args.other.now)) (arguments_bytes c.args.arguments.now) (arguments_bytes c.args.others.now)
    (rw (c.bytes.ensures, c.bytes-2.ensures) at c.in-Equal.ensures.decides)
    (decide_arguments c.compare_arguments.result c.args.arguments.now c.args.others.now c.compare_arguments.ensures.decides)

pub compare_shape-returns-clause-decides : goal.compare_shape-returns-clause-decides
compare_shape-returns-clause-decides t c =
    rw c.in-Shape.is
    (decide_shapes c.compare_shapes.result c.args.fields.now c.in-Shape.others.items (rw c.as_slice.ensures.value at c.compare_shapes.ensures.decides))

pub compare_array-returns-in-Equal-compare_types-clause-decides : goal.compare_array-returns-in-Equal-compare_types-clause-decides
compare_array-returns-in-Equal-compare_types-clause-decides t c =
    let flags : List ℕ = truth_bytes c.args.is_list ++ truth_bytes c.args.is_non_empty in
    let others : List ℕ = truth_bytes c.in-Array.other_list ++ truth_bytes c.in-Array.other_non_empty in
    let flagged : Decides c.compare_both_flags-flags.result flags others = c.compare_both_flags-flags.ensures.decides in
    rw c.in-Array.is
    (decides_both c.compare_both_flags-flags.result (type_bytes c.args.key.now) (type_bytes c.in-Array.other_key) (type_bytes c.args.value.now ++ flags) (type_bytes c.in-Array.other_value ++ others)
    c.in-Equal.ensures.decides
    (decides_both c.compare_both_flags-flags.result (type_bytes c.args.value.now) (type_bytes c.in-Array.other_value) flags others c.in-Equal-compare_types.ensures.decides flagged))
