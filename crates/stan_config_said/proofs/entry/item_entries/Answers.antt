use Rattle.std.proofs.Common.{◌∙◌, ◌++◌, map, sym, ap}
use Rattle.std.specs.Prelude.{reverse}
use Rattle.stan_model_config.specs.Said.{entry_of}
use Rattle.stan_config_said.specs.Views.{entry_view}
use Rattle.stan_config_said.proofs.Folds.{map_reverse}
use Rattle.stan_config_said.proofs.entry.item_entries.Goals as goal

pub returns : goal.returns
returns c =
    let e = rw c.in_default.is at c.pop.ensures in
    ap (map entry_view) c.reverse.ensures.items ∙ map_reverse entry_view c.loop-node.entries.items
    ∙ sym (c.loop-node.invariant ∙ ap (λ left. map (entry_of c.args.file.now) left ++ reverse (map entry_view c.loop-node.entries.items)) e.0)
