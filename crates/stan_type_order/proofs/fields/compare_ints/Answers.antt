use Rattle.std.proofs.Common.{ap, ◌∙◌, subst, ◌≡◌, ℕ}
use Rattle.std.proofs.lemmas.Int.{to_z-of_z}
use Rattle.std.specs.Int.{w64, cast_unsigned}
use Rattle.stan_model_types.specs.TypeBytes.{number_bytes}
use Rattle.stan_type_order.specs.Order.{Decides}
use Rattle.stan_type_order.proofs.fields.compare_ints.Goals as goal

pub returns-clause-decides : goal.returns-clause-decides
returns-clause-decides c =
    let same_a : c.cast_unsigned.result ≡ cast_unsigned w64 c.args.a = c.cast_unsigned.ensures ∙ ap (cast_unsigned w64) (to_z-of_z w64 c.args.a c.ranges.a) in
    let same_b : c.cast_unsigned-2.result ≡ cast_unsigned w64 c.args.b = c.cast_unsigned-2.ensures ∙ ap (cast_unsigned w64) (to_z-of_z w64 c.args.b c.ranges.b) in
    let at_b = subst (λ (n : ℕ). Decides c.compare_unsigned.result (number_bytes c.cast_unsigned.result) (number_bytes n)) same_b c.compare_unsigned.ensures.decides in
    subst (λ (n : ℕ). Decides c.compare_unsigned.result (number_bytes n) (number_bytes (cast_unsigned w64 c.args.b))) same_a at_b
