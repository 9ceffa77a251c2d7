-- What holds of lists of faults: each is the contract of a function of the module `laws`.
use Rattle.std.specs.Prelude.{◌≡◌, ◌↔◌, List}
use Rattle.std.specs.List.{Contains}
use Rattle.stan_model_verdict.specs.Fault.{Fault, in_order}

-- The order in which faults are found, and that one is found twice, changes nothing.
abbrev pub FaultsInAnyOrder : Type 0
FaultsInAnyOrder = (faults others : List Fault) → ((fault : Fault) → Contains faults fault ↔ Contains others fault) → in_order faults ≡ in_order others
