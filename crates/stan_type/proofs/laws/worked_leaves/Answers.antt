use Rattle.std.proofs.Common.{refl}
use Rattle.stan_model_types.specs.NormalForms.{normal, normal_within}
use Rattle.stan_model_types.specs.TypeBytes.{number_bytes}
use Rattle.stan_type.proofs.laws.worked_leaves.Goals as goal

pub returns : goal.returns
unfolding normal normal_within number_bytes
returns c = record { null = refl; mixed = refl; object = refl; callable = refl; least = refl; greatest = refl; between = refl; equal = refl; a_text = refl; a_truth = refl; a_float = refl; zero = refl; zero_among = refl; text = refl; zero_literal = refl; array = refl; no_fields = refl; truthy = refl }
