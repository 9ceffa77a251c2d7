use Rattle.std.proofs.Common.{sym, ◌∙◌}
use Rattle.std.proofs.lemmas.Map.Lookups.{exact_bytes}
use Rattle.stan_type_order.proofs.Deciding.{decides_of_length}
use Rattle.stan_type_order.proofs.fields.compare_long.Goals as goal

pub returns-clause-decides : goal.returns-clause-decides
returns-clause-decides c = rw c.cmp.ensures (decides_of_length c.args.a.now c.args.b.now c.requires)

pub returns-clause-equal : goal.returns-clause-equal
returns-clause-equal c = λ e. exact_bytes c.args.a.now c.args.b.now (sym c.cmp.ensures ∙ e)
