use Rattle.std.proofs.Common.{map}
use Rattle.stan_model_types.specs.TypeFilters.{kept}
use Rattle.stan_type_parts.specs.Parts.{part_of}
use Rattle.stan_type_filters.specs.Filters.{filter_of}
use Rattle.stan_type_filters.proofs.Lists.{flat_more}
use Rattle.stan_type_filters.proofs.kept.kept_parts.Goals as goal

pub loop-part-preserved : goal.loop-part-preserved
loop-part-preserved c =
    flat_more (kept (filter_of c.args.filter.now)) part_of c.args.parts.now c.loop-part.part-index c.part-item.result (map part_of c.loop-part.kept.items) (map part_of c.push_kept.new.out.items)
    c.loop-part-test.true c.part-item.is c.loop-part.invariant c.in_ok-push_kept.ensures
