use Rattle.std.proofs.Common.{ap, map, sym, ◌∙◌}
use Rattle.std.specs.Prelude.{◌||◌, filter}
use Rattle.stan_model_types.specs.NormalForms.{few_literals, free_literals, is_non_empty, is_plain, put_all}
use Rattle.stan_model_types.specs.TypeBytes.{part_order}
use Rattle.stan_type_parts.specs.Parts.{part_of}
use Rattle.stan_type_normal.proofs.Placing.{put_all-append}
use Rattle.stan_type_normal.proofs.strings.add_strings.Goals as goal

pub returns : goal.returns
returns c =
    c.in_ok-add_forms.ensures
    ∙ ap (put_all part_order (filter (λ p. is_plain p || is_non_empty p) (map part_of c.args.parts.now))) c.in_ok-add_few_literals.ensures
    ∙ sym (put_all-append part_order (few_literals (free_literals (map part_of c.args.parts.now))) (filter (λ p. is_plain p || is_non_empty p) (map part_of c.args.parts.now)) (map part_of c.args.out.now.items))
