use Rattle.std.proofs.Common.{Bool, true, false, List, [], ◌∷◌, ◌++◌, cond, refl}
use Rattle.std.specs.List.{flat_map}
use Rattle.stan_model_types.specs.Types.{PhpType, Part, parts}
use Rattle.stan_model_types.specs.TypeFilters.{kept, left, narrows}
use Rattle.stan_model_types.specs.NormalForms.{IsNormal, normal}
use Rattle.stan_type_laws.proofs.laws.types_are_normal.Goals as goal

is_normal : (ps : List Part) → IsNormal (normal ps)
unfolding normal
is_normal ps = (66, (ps, refl))

either : (b : Bool) (ps : List Part) (t : PhpType) → IsNormal t → IsNormal (cond b (normal ps) t)
either true ps t h = is_normal ps
either false ps t h = h

pub returns : goal.returns
returns c = record {
  one_part = λ p. is_normal (p ∷ []);
  union_of = λ t u. is_normal (parts t ++ parts u);
  kept = λ f t h. either (narrows f) (flat_map (kept f) (parts t)) t h;
  left = λ f t h. either (narrows f) (flat_map (left f) (parts t)) t h;
}
