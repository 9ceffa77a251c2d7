use Rattle.std.proofs.Common.{[], ap, sym, ◌∙◌}
use Rattle.stan_model_types.specs.NormalForms.{put_int}
use Rattle.stan_type_parts.specs.Parts.{part_of}
use Rattle.stan_type_normal.proofs.Filters.{put_ints-more}
use Rattle.stan_type_normal.proofs.numbers.ranges_of.Goals as goal

pub loop-part-preserved : goal.loop-part-preserved
loop-part-preserved c =
    c.in_ok-ranges.ensures ∙ ap (put_int (part_of c.part-item.result)) c.loop-part.invariant
    ∙ sym (put_ints-more c.args.parts.now c.loop-part.part-index c.part-item.result [] c.loop-part-test.true c.part-item.is)
