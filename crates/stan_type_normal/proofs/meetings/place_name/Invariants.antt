use Rattle.std.proofs.Common.{◌≡◌, ◌++◌, drop, map, take}
use Rattle.std.specs.Cmp.Lexicographic.{slice_cmp}
use Rattle.std.specs.Ordering.{nat_cmp}
use Rattle.stan_base.specs.Name.{name_bytes}
use Rattle.stan_model_types.specs.NormalForms.{put}
use Rattle.stan_type_normal.proofs.meetings.place_name.Given as goal

abbrev pub invariant-loop-i : goal.invariant-loop-i
invariant-loop-i l = put (slice_cmp nat_cmp) l.name (map name_bytes l.names) ≡ take l.i (map name_bytes l.names) ++ put (slice_cmp nat_cmp) l.name (drop l.i (map name_bytes l.names))
