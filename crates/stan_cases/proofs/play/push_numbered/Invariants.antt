use Rattle.std.proofs.Common.{◌≡◌, ◌++◌, map}
use Rattle.std.specs.List.{range_with_len}
use Rattle.stan_cases.specs.Played.{numbered_path}
use Rattle.stan_outside.specs.Memory.{file_of}
use Rattle.stan_cases.proofs.play.push_numbered.Given as goal

abbrev pub invariant-loop-place : goal.invariant-loop-place
invariant-loop-place l =
    map file_of l.single.items ≡ map file_of l.initial.single.items ++ map (λ place. (numbered_path place, l.bytes.items)) (range_with_len 0 l.place-counter)
