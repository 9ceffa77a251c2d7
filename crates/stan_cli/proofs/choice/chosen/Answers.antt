use Rattle.std.proofs.Common.{map, string_bytes}
use Rattle.stan_paths.specs.Paths.{IsInOrder}
use Rattle.stan_cli.proofs.ChoiceLemmas.{choice_is}
use Rattle.stan_cli.proofs.choice.chosen.Goals as goal

pub returns : goal.returns
returns c =
    let ordered : IsInOrder (map string_bytes c.keep_chosen.new.files.items) (map string_bytes c.put_in_order.new.paths.items) = c.in_ok-put_in_order.ensures in
    choice_is _ (map string_bytes c.deref.result.now) c.args.listed.items _ (rw c.deref.ensures.value c.in_ok-normal.ensures) (rw c.keep_chosen.ensures at ordered)
