use Rattle.std.proofs.Common.{map}
use Rattle.stan_model_types.specs.NormalForms.{is_of}
use Rattle.stan_model_types.specs.TypeBytes.{part_order}
use Rattle.stan_type_parts.specs.Parts.{part_of}
use Rattle.stan_type_normal.proofs.Filters.{put_more_tested}
use Rattle.stan_type_normal.proofs.kinds.add_kinds.Goals as goal

pub loop-part-preserved : goal.loop-part-preserved
loop-part-preserved c =
    put_more_tested part_order (is_of c.args.from c.args.to) part_of c.args.parts.now c.loop-part.part-index c.part-item.result (map part_of c.args.out.now.items) (map part_of c.loop-part.out.items) (map part_of c.add_copy.new.out.items)
    c.is_of.result c.loop-part-test.true c.part-item.is c.is_of.ensures c.loop-part.invariant c.in_ok-add_copy.ensures
