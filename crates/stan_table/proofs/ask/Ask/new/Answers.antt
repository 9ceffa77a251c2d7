use Rattle.std.proofs.Common.{◌∙◌, ap, sym}
use Rattle.stan_base.specs.Names.{fold_name}
use Rattle.stan_table.proofs.Folding.{fold_name_twice}
use Rattle.stan_table.proofs.ask.Ask.new.Goals as goal

pub invariant_of-result : goal.invariant_of-result
invariant_of-result c =
    let bytes = c.in_ok-name.ensures ∙ c.as_slice.ensures.value ∙ c.in_ok-folded.ensures in
    record { folded = ap (fold_name c.args.kind) bytes ∙ fold_name_twice c.args.kind c.bytes.result.now ∙ sym bytes }
