use Rattle.std.proofs.Common.{◌≡◌, map}
use Rattle.stan_case_text.specs.Cases.{name_of, names_begun}
use Rattle.stan_case_text.proofs.reading.read_cases.Given as goal

abbrev pub invariant-loop-place : goal.invariant-loop-place
invariant-loop-place l =
    (goal.iterator-loop-place).can_next l.place-iterator ×
    (goal.iterator-loop-place).is_finite l.place-iterator ×
    (map name_of l.cases.items ≡ names_begun (map (λ item. item.1.now) l.yielded))
