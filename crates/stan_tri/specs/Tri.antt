-- Where an answer stands among the three.
use Rattle.std.specs.Prelude.{ℕ}
use Rattle.stan_tri.specs.declared.tri.Tri.{Tri}
use Rattle.stan_tri.specs.declared.tri.Tri.TheVariants.{No, Maybe, Yes}

-- the least is 0
abbrev pub rank_of : Tri → ℕ
rank_of No = 0
rank_of Maybe = 1
rank_of Yes = 2
