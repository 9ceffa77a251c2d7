use Rattle.std.proofs.Common.{◌≡◌, map, take}
use Rattle.std.specs.Prelude.{filter}
use Rattle.stan_model_types.specs.NormalForms.{is_free_literal, put_all}
use Rattle.stan_model_types.specs.TypeBytes.{part_order}
use Rattle.stan_type_parts.specs.Parts.{part_of}
use Rattle.stan_type_normal.proofs.strings.add_literals.Given as goal

abbrev pub invariant-loop-part : goal.invariant-loop-part
invariant-loop-part l = map part_of l.out.items ≡ put_all part_order (filter (is_free_literal l.plain l.non_empty) (map part_of (take l.part-index l.parts))) (map part_of l.initial.out.items)
