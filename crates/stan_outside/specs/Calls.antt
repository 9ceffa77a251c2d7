-- The numbered calls of a form in memory.
use Rattle.std.specs.Prelude.{◌≡◌, ℕ, ◌+◌, ◌-◌, ◌^◌, ◌≤◌, List, Contains, min}
use Rattle.stan_outside.specs.declared.calls.Calls.{Calls}
use Rattle.stan_outside.specs.Outside.{Rose}

-- before the first call
pub record AreNew (numbers : List ℕ) (calls : Calls) : Type 0 where
  pub failing : calls.failing.items ≡ numbers
  pub next : calls.next ≡ 0
  pub faults : calls.faults ≡ 0

-- the next call is one that fails
abbrev pub IsToFail : Calls → Type 0
IsToFail calls = Contains calls.failing.items calls.next

-- one call later
pub record IsNextCall (old new : Calls) : Type 0 where
  pub failing : new.failing.items ≡ old.failing.items
  pub next : new.next ≡ min (old.next + 1) (2 ^ 64 - 1)

-- The count of faults rose where the call failed, and else it stayed.
pub record CountsFaults (failed : Type 0) (old new : Calls) : Type 0 where
  pub later : old.faults ≤ new.faults
  pub rose : failed → Rose old.faults new.faults
  pub same : ¬ failed → new.faults ≡ old.faults
