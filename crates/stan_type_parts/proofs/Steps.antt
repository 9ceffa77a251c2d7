-- Lists one item at a time, and counts of what stands in a list.
use Rattle.std.proofs.Common.{◌≡◌, ℕ, List, [], ◌∷◌, ◌++◌, ◌+◌, ◌<◌, ◌≤◌, map, length, get_or, take, zero, suc, refl, ap, sym, ◌∙◌, arith}
use Rattle.std.proofs.lemmas.List.{take_more}
use Rattle.stan_model_types.specs.Types as model
use Rattle.stan_model_types.specs.TypeLimits.{type_count, part_count, types_count, fields_count}
use Rattle.stan_type_parts.specs.declared.part.Field.{Field}
use Rattle.stan_type_parts.specs.declared.part.Part.{Part}
use Rattle.stan_type_parts.specs.Parts.{part_of, field_of}

map_push : {A B : Type 0} (f : A → B) (xs : List A) (x : A) → map f (xs ++ x ∷ []) ≡ map f xs ++ f x ∷ []
map_push f [] x = refl
map_push f (y ∷ ys) x = ap (λ zs. f y ∷ zs) (map_push f ys x)

-- one more item of a list
pub map_more : {A B : Type 0} (f : A → B) (xs : List A) (i : ℕ) (x : A) → i < length xs → x ≡ get_or xs i x → map f (take (i + 1) xs) ≡ map f (take i xs) ++ f x ∷ []
map_more f xs i x lt e = ap (map f) (take_more xs i x lt) ∙ map_push f (take i xs) (get_or xs i x) ∙ ap (λ y. map f (take i xs) ++ f y ∷ []) (sym e)

module _ where
  part_among : (p : Part) (ps : List Part) (i : ℕ) → i < length ps → part_count (part_of (get_or ps i p)) + 1 ≤ type_count (model.of_parts (map part_of ps))
  part_among p [] i lt = absurd (omega arith)
  part_among p (q ∷ qs) zero lt = omega arith
  part_among p (q ∷ qs) (suc i) lt = let below : i < length qs = omega arith in omega (arith, part_among p qs i below)

  type_among : (t : model.PhpType) (ts : List model.PhpType) (i : ℕ) → i < length ts → type_count (get_or ts i t) ≤ types_count (model.of_types ts)
  type_among t [] i lt = absurd (omega arith)
  type_among t (u ∷ us) zero lt = omega arith
  type_among t (u ∷ us) (suc i) lt = let below : i < length us = omega arith in omega (arith, type_among t us i below)

  field_among : (f : Field) (fs : List Field) (i : ℕ) → i < length fs → type_count (get_or fs i f).value ≤ fields_count (model.of_fields (map field_of fs))
  field_among f [] i lt = absurd (omega arith)
  field_among f (g ∷ gs) zero lt = omega arith
  field_among f (g ∷ gs) (suc i) lt = let below : i < length gs = omega arith in omega (arith, field_among f gs i below)

-- what stands in a list has fewer parts and fields
pub part_within : (ps : List Part) (i : ℕ) (p : Part) → i < length ps → p ≡ get_or ps i p → part_count (part_of p) + 1 ≤ type_count (model.of_parts (map part_of ps))
part_within ps i p lt e = omega (arith, part_among p ps i lt, ap (λ q. part_count (part_of q)) e)

pub type_within : (ts : List model.PhpType) (i : ℕ) (t : model.PhpType) → i < length ts → t ≡ get_or ts i t → type_count t ≤ types_count (model.of_types ts)
type_within ts i t lt e = omega (arith, type_among t ts i lt, ap type_count e)

pub field_within : (fs : List Field) (i : ℕ) (f : Field) → i < length fs → f ≡ get_or fs i f → type_count f.value ≤ fields_count (model.of_fields (map field_of fs))
field_within fs i f lt e = omega (arith, field_among f fs i lt, ap (λ g. type_count g.value) e)
