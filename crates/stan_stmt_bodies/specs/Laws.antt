-- What holds of what is read of expressions: the contract of a function of the module `laws`.
use Rattle.std.specs.Prelude.{◌≡◌, ℕ, Bool, List}
use Rattle.stan_model_grammar.specs.declared.token.Token.{Token}
use Rattle.stan_stmt_bodies.specs.Values.{valued, value_at}

abbrev pub BodiesAreReadByTheSame : Type 0
BodiesAreReadByTheSame = (ts : List Token) (named : Token → Bool) (room levels : ℕ) (p : Bool) (at : ℕ) → value_at ts named room levels p at ≡ valued ts named (value_at ts named) room levels p at
