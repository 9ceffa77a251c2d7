use Rattle.std.proofs.Common.{◌∷◌, ◌++◌, ap, drop, map, sym, take, ◌∙◌}
use Rattle.stan_base.specs.Name.{name_bytes}
use Rattle.stan_type_normal.proofs.Placing.{map-insert}
use Rattle.stan_type_normal.proofs.meetings.add_name.Goals as goal

pub returns-in_ok-insert-in-Some : goal.returns-in_ok-insert-in-Some
returns-in_ok-insert-in-Some c =
    ap (map name_bytes) c.in_ok-insert-in-Some.ensures.items ∙ map-insert name_bytes c.args.names.now.items c.in-Some.i c.in_ok-copy-in-Some.copy
    ∙ ap (λ y. take c.in-Some.i (map name_bytes c.args.names.now.items) ++ y ∷ drop c.in-Some.i (map name_bytes c.args.names.now.items)) c.in_ok-copy-in-Some.ensures
    ∙ sym (rw (c.as_slice.ensures.value, c.bytes.ensures) at c.in-Some.ensures.place)
