use Rattle.std.proofs.Common.{◌∷◌, ◌++◌, refl}
use Rattle.stan_patterns.proofs.PatternLemmas.{Matches-piece, Matches-star, piece_and_rest}
use Rattle.stan_patterns.proofs.laws.stars_stand_for_any_bytes.Goals as goal

pub returns : goal.returns
returns c = λ front any back front_free back_free.
    piece_and_rest front (42 ∷ back) (any ++ back) front_free ((Matches-star back (any ++ back)).1 (record { any = any; rest = back; splits = refl; holds = (Matches-piece back back back_free).1 refl }))
