-- Lines rise along a source.
use Rattle.std.proofs.Common.{ℕ, ◌≤◌, List, take, cond, subst, arith}
use Rattle.std.specs.Prelude.{◌==◌}
use Rattle.std.specs.List.{count_by}
use Rattle.std.proofs.lemmas.List.{take-take}
use Rattle.std.proofs.lemmas.List.Sums.{sum_by-take-le}
use Rattle.stan_base.specs.Bytes.{line_of}

pub line_of-le : (source : List ℕ) (a b : ℕ) → a ≤ b → line_of source a ≤ line_of source b
unfolding line_of
line_of-le source a b h =
    let feeds : count_by (λ b. b == 10) (take a source) ≤ count_by (λ b. b == 10) (take b source) =
    subst (λ front. count_by (λ b. b == 10) front ≤ count_by (λ b. b == 10) (take b source)) (take-take a b source h) (sum_by-take-le (λ b. cond (b == 10) 1 0) (take b source) a)
    in
    omega arith
