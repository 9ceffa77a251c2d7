use Rattle.std.proofs.Common.{arith}
use Rattle.stan_stmt_trees.proofs.Depths.{tops_greatest}
use Rattle.stan_stmt_trees.proofs.TopLayers.{top-Namespace, top-NamespaceBlock, top-Use, top-UseGroup, top-Plain}
use Rattle.stan_stmt_trees.proofs.top.+top_depths.Goals as goal

pub top_depth-returns-in-Namespace : goal.top_depth-returns-in-Namespace
top_depth-returns-in-Namespace t c = rw (c.in-Namespace.is, top-Namespace) (grind arith)

pub top_depth-returns-in-NamespaceBlock : goal.top_depth-returns-in-NamespaceBlock
top_depth-returns-in-NamespaceBlock t c = rw (c.in-NamespaceBlock.is, top-NamespaceBlock, tops_greatest) (grind arith)

pub top_depth-returns-in-Use : goal.top_depth-returns-in-Use
top_depth-returns-in-Use t c = rw (c.in-Use.is, top-Use) (grind arith)

pub top_depth-returns-in-UseGroup : goal.top_depth-returns-in-UseGroup
top_depth-returns-in-UseGroup t c = rw (c.in-UseGroup.is, top-UseGroup) (grind arith)

pub top_depth-returns-in-Plain : goal.top_depth-returns-in-Plain
top_depth-returns-in-Plain t c = rw (c.in-Plain.is, top-Plain) (grind arith)
