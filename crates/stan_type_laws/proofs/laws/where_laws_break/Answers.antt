use Rattle.std.proofs.Common.{refl}
use Rattle.stan_model_types.specs.NormalForms.{normal, normal_within}
use Rattle.stan_model_types.specs.TypeBytes.{number_bytes}
use Rattle.stan_type_laws.proofs.laws.where_laws_break.Goals as goal

pub returns : goal.returns
unfolding normal normal_within number_bytes
returns c = record { first_two = refl; last_two = refl; falsy = refl; template = refl; callable = refl; class_string = refl }
