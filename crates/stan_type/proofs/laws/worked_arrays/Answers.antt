use Rattle.std.proofs.Common.{refl}
use Rattle.stan_model_types.specs.NormalForms.{normal, normal_within}
use Rattle.stan_model_types.specs.TypeBytes.{number_bytes}
use Rattle.stan_type.proofs.laws.worked_arrays.Goals as goal

pub returns : goal.returns
unfolding normal normal_within number_bytes
returns c = record { list = refl; equal = refl; flag_of_both = refl; filled = refl; any = refl; no_fields = refl; shape = refl; key = refl; other_order = refl }
