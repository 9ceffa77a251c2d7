use Rattle.std.proofs.Common.{refl}
use Rattle.stan_model_types.specs.NormalForms.{normal, normal_within}
use Rattle.stan_model_types.specs.TypeBytes.{number_bytes}
use Rattle.stan_type_laws.proofs.laws.worked_tests.Goals as goal

pub returns : goal.returns
unfolding normal normal_within number_bytes
returns c = record { widest_null = refl; widest_bool = refl; widest_float = refl; widest_string = refl; widest_object = refl; widest_callable = refl; widest_literal = refl; all_objects = refl; shapes = refl; void_is_no_null = refl; void_stays = refl; no_strings = refl; no_arrays = refl; no_bools = refl; template_stays = refl; called = refl; called_object = refl; called_array = refl; called_literal = refl; called_five = refl; not_called = refl; only_null = refl; no_null = refl; only_true = refl; in_range = refl; at_greatest = refl; at_least = refl; a_range = refl; no_literal = refl; not_empty = refl; name_stays = refl; void_is_falsy = refl; zero_of_range = refl; no_zero = refl; may_be_empty = refl; never_empty = refl; optional_stays = refl; zero_text = refl; by_bound = refl; float_of_bound = refl; still_mixed = refl; truthy_string = refl; not_truthy = refl }
