-- Parts for scalar values, and the law of their texts.
use Rattle.std.specs.Prelude.{◌≡◌, ◌<◌, ◌^◌, ℤ, true}
use lib.Signed.{mag}
use Rattle.stan_model_types.specs.Types.{StringForm, Literal, NonEmpty, Plain, Part, Int, Float, Str, False, True, Null}
use Rattle.stan_model_types.specs.NormalForms.{is_literal_text}
use Rattle.stan_model_types.specs.TypeTexts.{part_text}

-- a number of 64 bits
abbrev pub IsInt64 : ℤ → Type 0
IsInt64 n = mag n < 2 ^ 63

abbrev pub IsStringForm : StringForm → Type 0
IsStringForm (Literal text) = is_literal_text text ≡ true
IsStringForm NonEmpty = Unit {0}
IsStringForm Plain = Unit {0}

abbrev pub IsScalar : Part → Type 0
IsScalar (Int least greatest) = IsInt64 least × IsInt64 greatest
IsScalar Float = Unit {0}
IsScalar (Str form) = IsStringForm form
IsScalar False = Unit {0}
IsScalar True = Unit {0}
IsScalar Null = Unit {0}
IsScalar p = ⊥

-- parts of one text are one
abbrev pub ScalarTextsDiffer : Type 0
ScalarTextsDiffer = (p q : Part) → IsScalar p → IsScalar q → part_text p ≡ part_text q → p ≡ q
