use Rattle.std.proofs.Common.{◌≡◌, ◌-◌, List, ◌++◌, ap, map, sym, ◌∙◌}
use Rattle.std.specs.Prelude.{option_map}
use Rattle.std.specs.List.{flat_map}
use Rattle.stan_model_types.specs.Types as model
use Rattle.stan_model_types.specs.TypeBytes.{part_order}
use Rattle.stan_model_types.specs.NormalForms.{array_parts, int_parts, join, mended, normal_within, of_kinds, put_all, string_parts}
use Rattle.stan_type_parts.specs.Parts.{part_of}
use Rattle.stan_type_order.proofs.Encodings.{parts-of_parts}
use Rattle.stan_type_normal.specs.Table.{table_of}
use Rattle.stan_type_normal.proofs.Normals.{arrays_few, arrays_many, join_key, join_table, join_value, no_level, one_level, put_flat_more, settled_explicit, settled_implicit, settled_limited, then_put}
use Rattle.stan_type_normal.proofs.form.+normal.Goals as goal

pub gather-loop-part-preserved : goal.gather-loop-part-preserved
gather-loop-part-preserved t c =
    c.in_ok-add_mended.ensures
    ∙ put_flat_more part_order (mended (normal_within c.args.inner)) part_of c.args.parts.now c.loop-part.part-index c.part-item.result (map part_of c.args.out.now.items) (map part_of c.loop-part.out.items)
    c.loop-part-test.true c.part-item.is c.loop-part.invariant

pub join-returns : goal.join-returns
join-returns t c =
    let first : map part_of c.parts.result.now ≡ model.parts c.args.t.now = sym (parts-of_parts (map part_of c.parts.result.now)) ∙ ap model.parts c.parts.ensures.value in
    let second : map part_of c.parts-2.result.now ≡ model.parts c.args.u.now = sym (parts-of_parts (map part_of c.parts-2.result.now)) ∙ ap model.parts c.parts-2.ensures.value in
    c.in_ok-joined.ensures
    ∙ ap (λ (ps : List model.Part). normal_within c.args.inner (ps ++ map part_of c.parts-2.result.now)) first
    ∙ ap (λ (ps : List model.Part). normal_within c.args.inner (model.parts c.args.t.now ++ ps)) second

pub join_more_keys-loop-field-preserved : goal.join_more_keys-loop-field-preserved
join_more_keys-loop-field-preserved t c =
    c.in_ok-joined.ensures
    ∙ ap (join (normal_within c.args.inner) c.loop-field.joined) c.in_ok-key.ensures
    ∙ join_key (normal_within c.args.inner) c.args.t c.args.fields.now c.loop-field.field-index c.field-item.result c.loop-field.joined c.loop-field-test.true c.field-item.is c.loop-field.invariant

pub join_more_values-loop-field-preserved : goal.join_more_values-loop-field-preserved
join_more_values-loop-field-preserved t c =
    c.in_ok-joined.ensures
    ∙ join_value (normal_within c.args.inner) c.args.t c.args.fields.now c.loop-field.field-index c.field-item.result c.loop-field.joined c.loop-field-test.true c.field-item.is c.loop-field.invariant

pub joined_tables-loop-part-preserved : goal.joined_tables-loop-part-preserved
joined_tables-loop-part-preserved t c =
    c.in_ok-found.ensures
    ∙ join_table (normal_within c.args.inner) c.args.parts.now c.loop-part.part-index c.part-item.result (option_map table_of c.loop-part.found) c.loop-part-test.true c.part-item.is c.loop-part.invariant

pub normal_parts-returns-then-levels-eq0 : goal.normal_parts-returns-then-levels-eq0
normal_parts-returns-then-levels-eq0 t c =
    ap model.of_parts c.in_ok-only.ensures ∙ no_level c.args.levels (map part_of c.args.parts.now ++ map part_of c.args.others.now) c.if-levels-eq0.true

pub normal_parts-returns : goal.normal_parts-returns
normal_parts-returns t c =
    (rw c.as_slice.ensures.value at c.in_ok-made.ensures)
    ∙ one_level c.args.levels (map part_of c.args.parts.now) (map part_of c.args.others.now) (map part_of c.gather.new.out.items) (map part_of c.gather-2.new.out.items) c.if-levels-eq0.false
    (c.in_ok-gather.ensures ∙ ap (λ qs. put_all part_order (flat_map (mended (normal_within (c.args.levels - 1))) (map part_of c.args.parts.now)) (map part_of qs)) c.in_ok-gathered.ensures.items)
    c.in_ok-gather-2.ensures

pub settle-returns-in_ok-only_explicit : goal.settle-returns-in_ok-only_explicit
settle-returns-in_ok-only_explicit t c =
    ap model.of_parts c.in_ok-only_explicit.ensures ∙ settled_explicit (normal_within c.args.inner) c.args.parts.now c.has_kind-explicit.result c.has_kind-explicit.ensures c.if-explicit.true

pub settle-returns-in_ok-only_implicit : goal.settle-returns-in_ok-only_implicit
settle-returns-in_ok-only_implicit t c =
    ap model.of_parts c.in_ok-only_implicit.ensures
    ∙ settled_implicit (normal_within c.args.inner) c.args.parts.now c.has_kind-explicit.result c.has_kind-implicit.result c.has_kind-explicit.ensures c.if-explicit.false c.has_kind-implicit.ensures c.if-implicit.true

pub settle-returns-in_ok-limited : goal.settle-returns-in_ok-limited
settle-returns-in_ok-limited t c =
    (rw c.in_ok-made.ensures at c.in_ok-limited.ensures)
    ∙ settled_limited (normal_within c.args.inner) c.args.parts.now c.has_kind-explicit.result c.has_kind-implicit.result c.has_kind-explicit.ensures c.if-explicit.false c.has_kind-implicit.ensures c.if-implicit.false

pub add_arrays-returns-in_ok-add_table : goal.add_arrays-returns-in_ok-add_table
add_arrays-returns-in_ok-add_table t c =
    c.in_ok-add_table.ensures
    ∙ ap (λ ps. put_all part_order ps (map part_of c.args.out.now.items))
    (arrays_many (normal_within c.args.inner) c.args.parts.now c.count_kinds.result (option_map table_of c.in_ok-table.table) c.count_kinds.ensures c.if-count_kinds-gt1.true c.in_ok-table.ensures)

pub add_arrays-returns-in_ok-add_kinds : goal.add_arrays-returns-in_ok-add_kinds
add_arrays-returns-in_ok-add_kinds t c =
    c.in_ok-add_kinds.ensures
    ∙ ap (λ ps. put_all part_order ps (map part_of c.args.out.now.items)) (arrays_few (normal_within c.args.inner) c.args.parts.now c.count_kinds.result c.count_kinds.ensures c.if-count_kinds-gt1.false)

pub settle_kinds-returns : goal.settle_kinds-returns
settle_kinds-returns t c =
    let ps : List model.Part = map part_of c.args.parts.now in
    let made : List model.Part = map part_of c.in_ok-made.made.items in
    let s1 : List model.Part = map part_of c.add_kinds.new.out.items in
    let s2 : List model.Part = map part_of c.add_arrays.new.out.items in
    let s3 : List model.Part = map part_of c.add_kinds-2.new.out.items in
    let s4 : List model.Part = map part_of c.add_ints.new.out.items in
    let s5 : List model.Part = map part_of c.add_kinds-3.new.out.items in
    let s6 : List model.Part = map part_of c.add_strings.new.out.items in
    let s7 : List model.Part = map part_of c.add_kinds-4.new.out.items in
    let last : List model.Part = string_parts ps ++ of_kinds 12 16 ps in
    let floats : List model.Part = of_kinds 10 10 ps ++ last in
    let ints : List model.Part = int_parts ps ++ floats in
    let callables : List model.Part = of_kinds 8 8 ps ++ ints in
    let arrays : List model.Part = array_parts (normal_within c.args.inner) ps ++ callables in
    let from_strings : s7 ≡ put_all part_order last s5 = then_put part_order (string_parts ps) (of_kinds 12 16 ps) s5 s6 s7 c.in_ok-add_strings.ensures c.in_ok-add_kinds-4.ensures in
    let from_floats : s7 ≡ put_all part_order floats s4 = then_put part_order (of_kinds 10 10 ps) last s4 s5 s7 c.in_ok-add_kinds-3.ensures from_strings in
    let from_ints : s7 ≡ put_all part_order ints s3 = then_put part_order (int_parts ps) floats s3 s4 s7 c.in_ok-add_ints.ensures from_floats in
    let from_callables : s7 ≡ put_all part_order callables s2 = then_put part_order (of_kinds 8 8 ps) ints s2 s3 s7 c.in_ok-add_kinds-2.ensures from_ints in
    let from_arrays : s7 ≡ put_all part_order arrays s1 = then_put part_order (array_parts (normal_within c.args.inner) ps) callables s1 s2 s7 c.in_ok-add_arrays.ensures from_callables in
    let all : s7 ≡ put_all part_order (of_kinds 1 5 ps ++ arrays) made = then_put part_order (of_kinds 1 5 ps) arrays made s1 s7 c.in_ok-add_kinds.ensures from_arrays in
    all ∙ ap (λ qs. put_all part_order (of_kinds 1 5 ps ++ arrays) (map part_of qs)) c.in_ok-made.ensures.items
