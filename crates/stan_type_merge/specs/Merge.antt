-- Two lists of parts in order as one.
use Rattle.std.specs.Prelude.{◌≡◌, ◌&&◌, Bool, nat_le, List, [], ◌∷◌, ◌++◌, count_by}
use Rattle.std.specs.Ordering.{match_ordering}
use Rattle.std.specs.declared.cmp.Ordering.TheVariants.{Less, Equal}
use Rattle.stan_model_types.specs.Types.{Part}
use Rattle.stan_model_types.specs.TypeBytes.{part_order}
use Rattle.stan_model_types.specs.NormalForms.{is_of}

-- the parts in front that are below one
abbrev pub below : Part → List Part → List Part
below p [] = []
below p (q ∷ qs) = match_ordering (part_order q p) (q ∷ below p qs) [] []

-- those behind; one that is equal goes
abbrev pub above : Part → List Part → List Part
above p [] = []
above p (q ∷ qs) = match_ordering (part_order q p) (above p qs) qs (q ∷ qs)

abbrev pub merge : List Part → List Part → List Part
merge [] qs = qs
merge (p ∷ ps) qs = below p qs ++ p ∷ merge ps (above p qs)

-- one that goes is equal
abbrev pub IsTied : Part → List Part → Type 0
IsTied p [] = Unit {0}
IsTied p (q ∷ qs) = (part_order q p ≡ Less → IsTied p qs) × (part_order q p ≡ Equal → q ≡ p)

abbrev pub AreTied : List Part → List Part → Type 0
AreTied [] qs = Unit {0}
AreTied (p ∷ ps) qs = IsTied p qs × AreTied ps (above p qs)

-- no two arrays, int parts or strings, and no `mixed`: no part touches another
abbrev pub stand_alone : List Part → Bool
stand_alone ps = (nat_le (count_by (is_of 6 7) ps) 1 && nat_le (count_by (is_of 9 9) ps) 1) && (nat_le (count_by (is_of 11 11) ps) 1 && nat_le (count_by (is_of 17 18) ps) 0)
