use Rattle.std.proofs.Common.{[], map}
use Rattle.std.specs.Cmp.Lexicographic.{slice_cmp}
use Rattle.std.specs.Ordering.{nat_cmp}
use Rattle.stan_base.specs.Name.{name_bytes}
use Rattle.std.proofs.Common.{◌∙◌}
use Rattle.stan_type_normal.proofs.Filters.{put_more}
use Rattle.stan_type_normal.proofs.meetings.ordered_names.Goals as goal

pub loop-name-preserved : goal.loop-name-preserved
loop-name-preserved c =
    c.in_ok-add_name.ensures
    ∙ put_more (slice_cmp nat_cmp) name_bytes c.args.names.now c.loop-name.name-index c.name-item.result [] (map name_bytes c.loop-name.ordered.items) c.loop-name-test.true c.name-item.is c.loop-name.invariant
