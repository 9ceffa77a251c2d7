use Rattle.std.proofs.Common.{ap, map, sym, ◌∙◌}
use Rattle.stan_model_types.specs.NormalForms.{put_all}
use Rattle.stan_model_types.specs.TypeBytes.{part_order}
use Rattle.stan_type_parts.specs.Parts.{part_of}
use Rattle.stan_type_normal.proofs.Filters.{literals_few, literals_many}
use Rattle.stan_type_normal.proofs.strings.add_few_literals.Goals as goal

pub returns-in_ok-add : goal.returns-in_ok-add
returns-in_ok-add c =
    c.in_ok-add.ensures ∙ ap (λ ls. put_all part_order ls (map part_of c.args.out.now.items))
    (sym (literals_many c.has_plain-plain.result c.has_non_empty-non_empty.result c.args.parts.now c.count_literals.result c.has_plain-plain.ensures c.has_non_empty-non_empty.ensures c.count_literals.ensures c.if-count_literals-gt32.true))

pub returns-in_ok-add_literals : goal.returns-in_ok-add_literals
returns-in_ok-add_literals c =
    c.in_ok-add_literals.ensures ∙ ap (λ ls. put_all part_order ls (map part_of c.args.out.now.items))
    (sym (literals_few c.has_plain-plain.result c.has_non_empty-non_empty.result c.args.parts.now c.count_literals.result c.has_plain-plain.ensures c.has_non_empty-non_empty.ensures c.count_literals.ensures c.if-count_literals-gt32.false))
