-- What holds of the definitions at every source: each is the contract of a function of the module `laws`.
use Rattle.std.specs.Prelude.{ℕ, ◌≤◌, List}
use Rattle.stan_base.specs.Bytes.{line_of}

-- A byte stands on no earlier line than a byte before it.
abbrev pub LinesDoNotFall : Type 0
LinesDoNotFall = (source : List ℕ) (a b : ℕ) → a ≤ b → line_of source a ≤ line_of source b
