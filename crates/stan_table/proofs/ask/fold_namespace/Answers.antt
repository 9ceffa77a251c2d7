use Rattle.std.proofs.Common.{◌∙◌}
use Rattle.stan_table.proofs.Folding.{fold_namespace_from_parts}
use Rattle.stan_table.proofs.ask.fold_namespace.Goals as goal

pub returns : goal.returns
returns c =
    let at = c.namespace_len.ensures in
    c.in_ok-extend_from_slice.ensures.items
    ∙ fold_namespace_from_parts c.args.name.now _ _ _ c.namespace_len.result at.within at.ends at.last c.split_at.ensures.front c.split_at.ensures.back c.in_ok-folded.ensures.ok
