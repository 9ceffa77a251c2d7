use Rattle.std.proofs.Common.{refl}
use Rattle.stan_model_types.specs.NormalForms.{normal, normal_within}
use Rattle.stan_model_types.specs.TypeBytes.{number_bytes}
use Rattle.stan_type.proofs.laws.worked_keeps.Goals as goal

pub returns : goal.returns
unfolding normal normal_within number_bytes
returns c = record { null = refl; bool = refl; int = refl; text = refl; array = refl; object = refl; mixed_int = refl; mixed_array = refl; mixed_truthy = refl; mixed_falsy = refl; closure = refl; callable_text = refl; callable_int = refl; template_int = refl; template_five = refl; template_text = refl; five = refl; not_there = refl; class_name = refl; empty_name = refl; a_float = refl; callable_falsy = refl; string_falsy = refl; int_falsy = refl; object_falsy = refl }
