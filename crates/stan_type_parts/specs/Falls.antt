-- Each type inside a type has fewer parts and fields.
use Rattle.std.specs.Prelude.{◌≤◌, List, [], ◌∷◌, map, Some, None, ◌+◌}
use Rattle.std.proofs.Common.{arith}
use denote.Param.Weighed.{most}
use Rattle.stan_model_types.specs.Types.{PhpType, of_parts, of_types, of_fields}
use Rattle.stan_model_types.specs.TypeLimits.{type_count, part_count, types_count, fields_count}
use Rattle.stan_type_parts.specs.declared.part.Field.{Field}
use Rattle.stan_type_parts.specs.declared.part.Part.{Part}
use Rattle.stan_type_parts.specs.declared.part.Part.TheVariants as rows
use Rattle.stan_type_parts.specs.declared.part.PhpType.TheDeep.{deep-Part, deep-Field}
use Rattle.stan_type_parts.specs.Parts.{part_of, field_of}

most_types : (ts : List PhpType) → most (λ t. type_count t + 1) ts ≤ types_count (of_types ts) + 1
most_types [] = omega arith
most_types (t ∷ ts) = omega (arith, most_types ts)

most_fields : (fs : List Field) → most deep-Field fs ≤ fields_count (of_fields (map field_of fs)) + 1
most_fields [] = omega arith
most_fields (f ∷ fs) = omega (arith, most_fields fs)

deep_part : (p : Part) → deep-Part p ≤ part_count (part_of p) + 1
deep_part (rows.Object name arguments) = omega (arith, most_types arguments.items)
deep_part (rows.Static name) = omega arith
deep_part (rows.Meeting names) = omega arith
deep_part rows.AnyObject = omega arith
deep_part (rows.Template owner name bound) = omega arith
deep_part (rows.Array key value list non_empty) = omega arith
deep_part (rows.Shape fields) = omega (arith, most_fields fields.items)
deep_part rows.Callable = omega arith
deep_part (rows.Int least greatest) = omega arith
deep_part rows.Float = omega arith
deep_part (rows.Str form) = omega arith
deep_part (rows.ClassString None) = omega arith
deep_part (rows.ClassString (Some t)) = omega arith
deep_part rows.False = omega arith
deep_part rows.True = omega arith
deep_part rows.Null = omega arith
deep_part rows.Void = omega arith
deep_part rows.ImplicitMixed = omega arith
deep_part rows.ExplicitMixed = omega arith

pub child_count : (ps : List Part) → most deep-Part ps ≤ type_count (of_parts (map part_of ps))
child_count [] = omega arith
child_count (p ∷ ps) = omega (arith, child_count ps, deep_part p)
