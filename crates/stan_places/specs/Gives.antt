-- What a rule of a parser ensures: it gives what the rule as a function on places gives, unless memory runs out.
use Rattle.std.specs.Prelude.{◌≡◌, ℕ, Option, None, Some, Result, Ok, Err, option_map}
use Rattle.stan_places.specs.declared.stop.Stop.{Stop}
use Rattle.stan_places.specs.declared.stop.Stop.TheVariants.{Memory, Absent}

abbrev pub Fails : {Y : Type 0} → Stop → Option Y → Type 0
Fails Memory read = Unit {0}
Fails Absent read = read ≡ None

abbrev pub Gives : {X Y : Type 0} → (X → Y) → Result X Stop → Option Y → Type 0
Gives view (Ok x) read = read ≡ Some (view x)
Gives view (Err e) read = Fails e read

-- what was read, with the place behind it
abbrev pub at : {X Y : Type 0} → (X → Y) → X × ℕ → Y × ℕ
at view x = (view x.0, x.1)

-- what a turn of a loop took
abbrev pub turn : {X Y : Type 0} → (X → Y) → Option (X × ℕ) → Option (Y × ℕ)
turn view = option_map (at view)
