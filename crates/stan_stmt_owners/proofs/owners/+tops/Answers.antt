use Rattle.std.proofs.Common.{arith, append-nil, append_assoc}
use Rattle.stan_stmt_owners.proofs.Lists.{tops_flat}
use Rattle.stan_stmt_trees.proofs.TopLayers.{top-Namespace, top-NamespaceBlock, top-Use, top-UseGroup, top-Plain}
use Rattle.stan_stmt_owners.proofs.owners.+tops.Goals as goal

pub top_owned-returns-in-Namespace : goal.top_owned-returns-in-Namespace
top_owned-returns-in-Namespace t c = rw (c.in-Namespace.is, top-Namespace) (grind (arith, append-nil, append_assoc))

pub top_owned-returns-in_ok-push-in-NamespaceBlock : goal.top_owned-returns-in_ok-push-in-NamespaceBlock
top_owned-returns-in_ok-push-in-NamespaceBlock t c = rw (c.in-NamespaceBlock.is, top-NamespaceBlock, tops_flat) (grind (arith, append-nil, append_assoc))

pub top_owned-returns-in-Use : goal.top_owned-returns-in-Use
top_owned-returns-in-Use t c = rw (c.in-Use.is, top-Use) (grind (arith, append-nil, append_assoc))

pub top_owned-returns-in-UseGroup : goal.top_owned-returns-in-UseGroup
top_owned-returns-in-UseGroup t c = rw (c.in-UseGroup.is, top-UseGroup) (grind (arith, append-nil, append_assoc))

pub top_owned-returns-in-Plain : goal.top_owned-returns-in-Plain
top_owned-returns-in-Plain t c = rw (c.in-Plain.is, top-Plain) (grind (arith, append-nil, append_assoc))
