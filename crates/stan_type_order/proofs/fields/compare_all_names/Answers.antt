use Rattle.std.specs.declared.cmp.Ordering.TheVariants.{Less, Greater}
use Rattle.stan_base.specs.Name.{name_bytes}
use Rattle.stan_model_types.specs.TypeBytes.{text_bytes}
use Rattle.stan_type_order.proofs.Deciding.{views_decide_at, views_decide_all, taken_all, less_unequal, greater_unequal}
use Rattle.stan_type_order.proofs.Encodings.{all_texts-flat}
use Rattle.stan_type_order.proofs.fields.compare_all_names.Goals as goal

pub returns-in-Less-clause-decides : goal.returns-in-Less-clause-decides
returns-in-Less-clause-decides c =
    rw (all_texts-flat name_bytes c.args.a.now, all_texts-flat name_bytes c.args.b.now)
    (views_decide_at text_bytes name_bytes c.args.a.now c.args.b.now c.loop-i.i c.index-a-i.result c.index-b-i.result Less c.loop-i-test.true c.requires c.index-a-i.is c.index-b-i.is
    c.loop-i.invariant (rw (c.bytes.ensures, c.bytes-in-loop-i.ensures) at c.in-Less.ensures.decides) less_unequal)

pub returns-in-Greater-clause-decides : goal.returns-in-Greater-clause-decides
returns-in-Greater-clause-decides c =
    rw (all_texts-flat name_bytes c.args.a.now, all_texts-flat name_bytes c.args.b.now)
    (views_decide_at text_bytes name_bytes c.args.a.now c.args.b.now c.loop-i.i c.index-a-i.result c.index-b-i.result Greater c.loop-i-test.true c.requires c.index-a-i.is c.index-b-i.is
    c.loop-i.invariant (rw (c.bytes.ensures, c.bytes-in-loop-i.ensures) at c.in-Greater.ensures.decides) greater_unequal)

pub returns-clause-decides : goal.returns-clause-decides
returns-clause-decides c =
    rw (all_texts-flat name_bytes c.args.a.now, all_texts-flat name_bytes c.args.b.now)
    (views_decide_all text_bytes name_bytes c.args.a.now c.args.b.now (taken_all name_bytes c.args.a.now c.args.b.now c.loop-i.i c.loop-i-test.false c.requires c.loop-i.invariant))
