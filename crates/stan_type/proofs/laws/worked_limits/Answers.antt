use Rattle.std.proofs.Common.{refl}
use Rattle.stan_model_types.specs.NormalForms.{normal, normal_within}
use Rattle.stan_model_types.specs.TypeBytes.{number_bytes}
use Rattle.stan_type.proofs.laws.worked_limits.Goals as goal

pub returns : goal.returns
unfolding normal normal_within number_bytes
returns c = record { ranges = refl; one_range_more = refl; literals = refl; one_literal_more = refl; levels = refl; one_level_more = refl; fields = refl; one_field_more = refl; bytes = refl; one_byte_more = refl; least_byte = refl; below_it = refl; greatest_byte = refl; above_it = refl }
