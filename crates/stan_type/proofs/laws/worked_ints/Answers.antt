use Rattle.std.proofs.Common.{refl}
use Rattle.stan_model_types.specs.NormalForms.{normal, normal_within}
use Rattle.stan_model_types.specs.TypeBytes.{number_bytes}
use Rattle.stan_type.proofs.laws.worked_ints.Goals as goal

pub returns : goal.returns
unfolding normal normal_within number_bytes
returns c = record { touch = refl; overlap = refl; apart = refl; joined = refl; negative_last = refl; none = refl; all = refl; least = refl; greatest = refl }
