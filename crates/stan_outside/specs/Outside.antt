-- What the traits of the outside say.
use Rattle.std.specs.Prelude.{◌≡◌, ◌≢◌, ◌⊎◌, ℕ, ◌<◌, ◌+◌, ◌^◌, ◌-◌, min, IsTrue, not, List, IsSome}
use Rattle.std.specs.List.{Contains, AllPairs, list_all}
use Rattle.std.specs.FinMap as finite
use Rattle.stan_outside.specs.Contents.{Contents, parts_of, is_proper_part}
use Rattle.std.specs.Str.{bytes_eq}
use Rattle.std.specs.Prelude.{codes}

-- A count rose, or stands where it can rise no more.
abbrev pub Rose : ℕ → ℕ → Type 0
Rose old new = (old < new) ⊎ (new ≡ 2 ^ 64 - 1)

-- A count rose by a number, or by what was left up to the end of its type.
abbrev pub RoseBy : ℕ → ℕ → ℕ → Type 0
RoseBy number old new = new ≡ old + min number ((2 ^ 64 - 1) - old)

-- the paths of the files, each once, in any order
pub record Lists (contents : Contents) (paths : List (List ℕ)) : Type 0 where
  pub each : (path : List ℕ) → Contains paths path → IsSome (finite.get contents path)
  pub all : (path : List ℕ) → IsSome (finite.get contents path) → Contains paths path
  pub once : AllPairs (λ x y. x ≢ y) paths

-- no part of a path is empty, `.` or `..`
abbrev pub IsPath : List ℕ → Type 0
IsPath path = IsTrue (list_all (λ part. is_proper_part part) (parts_of path)) × IsTrue (list_all (λ part. not (bytes_eq part (codes ".."))) (parts_of path))

abbrev pub ArePaths : Contents → Type 0
ArePaths contents = (path : List ℕ) → IsSome (finite.get contents path) → IsPath path
