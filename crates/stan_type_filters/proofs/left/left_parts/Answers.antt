use Rattle.std.proofs.Common.{map}
use Rattle.stan_model_types.specs.TypeFilters.{left}
use Rattle.stan_type_parts.specs.Parts.{part_of}
use Rattle.stan_type_filters.specs.Filters.{filter_of}
use Rattle.stan_type_filters.proofs.Lists.{flat_more, numbers_among}
use Rattle.stan_type_filters.proofs.left.left_parts.Goals as goal

pub push_left-requires : goal.push_left-requires
push_left-requires c = numbers_among c.args.parts.now c.loop-part.part-index c.part-item.result c.loop-part-test.true c.part-item.is c.requires

pub loop-part-preserved : goal.loop-part-preserved
loop-part-preserved c =
    flat_more (left (filter_of c.args.filter.now)) part_of c.args.parts.now c.loop-part.part-index c.part-item.result (map part_of c.loop-part.left.items) (map part_of c.push_left.new.out.items)
    c.loop-part-test.true c.part-item.is c.loop-part.invariant c.in_ok-push_left.ensures
