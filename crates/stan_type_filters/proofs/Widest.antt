-- The widest types are in normal form.
use Rattle.std.proofs.Common.{[], ◌∷◌, refl}
use Rattle.stan_model_types.specs.Types.{ImplicitMixed, parts}
use Rattle.stan_model_types.specs.TypeBytes.{number_bytes}
use Rattle.stan_model_types.specs.TypeFilters.{array_key}
use Rattle.stan_model_types.specs.TypeLimits.{implicit_mixed}
use Rattle.stan_model_types.specs.NormalForms.{IsNormal, normal_within}

pub mixed_normal : IsNormal implicit_mixed
unfolding normal_within number_bytes
mixed_normal = (1, (ImplicitMixed ∷ [], refl))

pub key_normal : IsNormal array_key
unfolding normal_within number_bytes
key_normal = (1, (parts array_key, refl))
