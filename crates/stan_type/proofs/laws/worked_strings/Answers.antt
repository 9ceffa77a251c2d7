use Rattle.std.proofs.Common.{refl}
use Rattle.stan_model_types.specs.NormalForms.{normal, normal_within}
use Rattle.stan_model_types.specs.TypeBytes.{number_bytes}
use Rattle.stan_type.proofs.laws.worked_strings.Goals as goal

pub returns : goal.returns
unfolding normal normal_within number_bytes
returns c = record { non_empty = refl; empty_stays = refl; plain = refl; both_stay = refl; class_strings_stay = refl; by_length = refl; line_feed = refl }
