-- The text of a field.
use Rattle.std.specs.Prelude.{ℕ, List, ◌++◌}
use Rattle.stan_model_types.specs.Types.{Field}
use Rattle.stan_model_types.specs.TypeTexts.{key_text, optional_text, type_text}

abbrev pub field_text : Field → List ℕ
field_text f = key_text f.key ++ (optional_text f.optional ++ type_text f.value)
