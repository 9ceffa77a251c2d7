use Rattle.std.proofs.Common.{refl}
use Rattle.stan_model_types.specs.NormalForms.{normal, normal_within}
use Rattle.stan_model_types.specs.TypeBytes.{number_bytes}
use Rattle.stan_type.proofs.laws.worked_kinds.Goals as goal

pub returns : goal.returns
unfolding normal normal_within number_bytes
returns c = record { bool = refl; nothing = refl; explicit = refl; mixed = refl; object_stays = refl; callable_stays = refl; nullable = refl; arguments = refl; meeting = refl; one_name = refl; no_name = refl; static_class = refl; class_string = refl }
