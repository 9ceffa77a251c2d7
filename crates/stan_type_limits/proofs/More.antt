-- One more part, type or field: how many there are, and how deep they stand.
use Rattle.std.proofs.Common.{◌≡◌, ℕ, List, [], ◌∷◌, ◌++◌, ◌+◌, ◌<◌, max, map, length, get_or, take, refl, ap, sym, ◌∙◌, arith}
use Rattle.std.proofs.lemmas.List.{take_more}
use Rattle.stan_model_types.specs.Types as model
use Rattle.stan_model_types.specs.TypeLimits.{type_count, part_count, types_count, fields_count, type_depth, part_depth, types_depth, fields_depth, inner_depth}
use Rattle.stan_type_parts.specs.declared.part.Field.{Field}
use Rattle.stan_type_parts.specs.declared.part.Part.{Part}
use Rattle.stan_type_parts.specs.Parts.{part_of, field_of}
use Rattle.stan_type_parts.proofs.Steps.{map_more}

parts_push : (ps : List model.Part) (p : model.Part) → type_count (model.of_parts (ps ++ p ∷ [])) ≡ type_count (model.of_parts ps) + (1 + part_count p)
parts_push [] p = omega arith
parts_push (q ∷ ps) p = omega (arith, parts_push ps p)

types_push : (ts : List model.PhpType) (t : model.PhpType) → types_count (model.of_types (ts ++ t ∷ [])) ≡ types_count (model.of_types ts) + type_count t
types_push [] t = omega arith
types_push (u ∷ ts) t = omega (arith, types_push ts t)

fields_push : (fs : List model.Field) (f : model.Field) → fields_count (model.of_fields (fs ++ f ∷ [])) ≡ fields_count (model.of_fields fs) + (1 + type_count f.value)
fields_push [] f = omega arith
fields_push (g ∷ fs) f = omega (arith, fields_push fs f)

deeper_parts : (ps : List model.Part) (p : model.Part) → type_depth (model.of_parts (ps ++ p ∷ [])) ≡ max (type_depth (model.of_parts ps)) (part_depth p)
deeper_parts [] p = omega arith
deeper_parts (q ∷ ps) p = omega (arith, deeper_parts ps p)

deeper_types : (ts : List model.PhpType) (t : model.PhpType) → types_depth (model.of_types (ts ++ t ∷ [])) ≡ max (types_depth (model.of_types ts)) (inner_depth t)
deeper_types [] t = omega arith
deeper_types (u ∷ ts) t = omega (arith, deeper_types ts t)

deeper_fields : (fs : List model.Field) (f : model.Field) → fields_depth (model.of_fields (fs ++ f ∷ [])) ≡ max (fields_depth (model.of_fields fs)) (inner_depth f.value)
deeper_fields [] f = omega arith
deeper_fields (g ∷ fs) f = omega (arith, deeper_fields fs f)

pub more_parts : (ps : List Part) (i : ℕ) (p : Part) → i < length ps → p ≡ get_or ps i p → type_count (model.of_parts (map part_of (take (i + 1) ps))) ≡ type_count (model.of_parts (map part_of (take i ps))) + (1 + part_count (part_of p))
more_parts ps i p lt e = ap (λ qs. type_count (model.of_parts qs)) (map_more part_of ps i p lt e) ∙ parts_push (map part_of (take i ps)) (part_of p)

pub more_types : (ts : List model.PhpType) (i : ℕ) (t : model.PhpType) → i < length ts → t ≡ get_or ts i t → types_count (model.of_types (take (i + 1) ts)) ≡ types_count (model.of_types (take i ts)) + type_count t
more_types ts i t lt e = ap (λ us. types_count (model.of_types us)) (take_more ts i t lt ∙ ap (λ u. take i ts ++ u ∷ []) (sym e)) ∙ types_push (take i ts) t

pub more_fields : (fs : List Field) (i : ℕ) (f : Field) → i < length fs → f ≡ get_or fs i f → fields_count (model.of_fields (map field_of (take (i + 1) fs))) ≡ fields_count (model.of_fields (map field_of (take i fs))) + (1 + type_count f.value)
more_fields fs i f lt e = ap (λ gs. fields_count (model.of_fields gs)) (map_more field_of fs i f lt e) ∙ fields_push (map field_of (take i fs)) (field_of f)

pub depth_parts : (ps : List Part) (i : ℕ) (p : Part) → i < length ps → p ≡ get_or ps i p → type_depth (model.of_parts (map part_of (take (i + 1) ps))) ≡ max (type_depth (model.of_parts (map part_of (take i ps)))) (part_depth (part_of p))
depth_parts ps i p lt e = ap (λ qs. type_depth (model.of_parts qs)) (map_more part_of ps i p lt e) ∙ deeper_parts (map part_of (take i ps)) (part_of p)

pub depth_types : (ts : List model.PhpType) (i : ℕ) (t : model.PhpType) → i < length ts → t ≡ get_or ts i t → types_depth (model.of_types (take (i + 1) ts)) ≡ max (types_depth (model.of_types (take i ts))) (inner_depth t)
depth_types ts i t lt e = ap (λ us. types_depth (model.of_types us)) (take_more ts i t lt ∙ ap (λ u. take i ts ++ u ∷ []) (sym e)) ∙ deeper_types (take i ts) t

pub depth_fields : (fs : List Field) (i : ℕ) (f : Field) → i < length fs → f ≡ get_or fs i f → fields_depth (model.of_fields (map field_of (take (i + 1) fs))) ≡ max (fields_depth (model.of_fields (map field_of (take i fs)))) (inner_depth f.value)
depth_fields fs i f lt e = ap (λ gs. fields_depth (model.of_fields gs)) (map_more field_of fs i f lt e) ∙ deeper_fields (map field_of (take i fs)) (field_of f)

pub one_deeper : (ps : List Part) → 0 < length ps → inner_depth (model.of_parts (map part_of ps)) ≡ 1 + type_depth (model.of_parts (map part_of ps))
one_deeper [] e = absurd (omega (arith, e))
one_deeper (p ∷ ps) e = refl
