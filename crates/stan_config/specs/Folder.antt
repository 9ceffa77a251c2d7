-- What holds of a folder before and after it is read.
use Rattle.std.specs.Prelude.{◌≡◌, ◌↔◌, ◌≤◌, ℕ, Bool, List, IsSome, IsTrue}
use Rattle.std.specs.FinMap as finite
use Rattle.stan_outside.specs.Contents.{Contents}

-- Something stands at each path that a test lets through.
abbrev pub AreHeld : Contents → (List ℕ → Bool) → Type 0
AreHeld contents is_listed = (path : List ℕ) → IsTrue (is_listed path) → IsSome (finite.get contents path)

-- A folder tells what it told, was listed no more, and its faults do not fall.
pub record KeepsTree {T : Type 0} (tells : T → Type 0) (contents : T → Contents) (faults listings : T → ℕ) (never_fails : T → Type 0) (old new : T) : Type 0 where
  pub tells_alike : tells old ↔ tells new
  pub same_contents : contents new ≡ contents old
  pub no_fewer_faults : faults old ≤ faults new
  pub same_listings : listings new ≡ listings old
  pub same_faults : never_fails old → faults new ≡ faults old
  pub still_never_fails : never_fails old → never_fails new
