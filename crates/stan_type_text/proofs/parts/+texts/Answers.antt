use Rattle.std.proofs.Common.{arith, codes, string_bytes}
use Rattle.std.proofs.lemmas.Result.{on_ok_weaker}
use Rattle.stan_model_types.specs.TypeTexts.{type_text}
use Rattle.stan_type_parts.proofs.Steps.{field_within, type_within}
use Rattle.stan_type_text.proofs.Joined.{three_more}
use Rattle.stan_type_text.proofs.parts.+texts.Goals as goal

pub put_more_fields-put_field-requires : goal.put_more_fields-put_field-requires
put_more_fields-put_field-requires t c = (omega (arith, field_within c.args.fields.now c.loop-field.field-index c.field-item.result c.loop-field-test.true c.field-item.is), tt)

pub put_more_types-put_type-requires : goal.put_more_types-put_type-requires
put_more_types-put_type-requires t c = (omega (arith, type_within c.args.types.now c.loop-t.t-index c.t-item.result c.loop-t-test.true c.t-item.is), tt)

pub put_class-returns : goal.put_class-returns
put_class-returns t c =
    on_ok_weaker c.put-2.result
    (three_more (string_bytes c.args.out.now) (codes "class-string<") (type_text c.args.t.now) (codes ">") (string_bytes c.put.new.out) (string_bytes c.put_type.new.out) (string_bytes c.put-2.new.out) c.in_ok-put.ensures c.in_ok-put_type.ensures)
    c.put-2.ensures
