use Rattle.std.proofs.Common.{map, sym, append-nil}
use Rattle.stan_analyst.specs.Verdict.{fault_of}
use Rattle.stan_stmt_trees.proofs.TopLayers.{top-Namespace, top-NamespaceBlock, top-Use, top-UseGroup, top-Plain}
use Rattle.stan_analyse.proofs.faults.+tops.Goals as goal

pub top_faults-returns-in-Namespace : goal.top_faults-returns-in-Namespace
top_faults-returns-in-Namespace t c = rw (c.in-Namespace.is, top-Namespace) (sym (append-nil (map fault_of c.args.faults.now.items)))

pub top_faults-returns-in-Use : goal.top_faults-returns-in-Use
top_faults-returns-in-Use t c = rw (c.in-Use.is, top-Use) (sym (append-nil (map fault_of c.args.faults.now.items)))

pub top_faults-returns-in-UseGroup : goal.top_faults-returns-in-UseGroup
top_faults-returns-in-UseGroup t c = rw (c.in-UseGroup.is, top-UseGroup) (sym (append-nil (map fault_of c.args.faults.now.items)))

pub top_faults-returns-in-Plain : goal.top_faults-returns-in-Plain
top_faults-returns-in-Plain t c = rw (c.in-Plain.is, top-Plain) c.statement_faults.ensures

pub top_faults-returns-in_ok-inside-in-NamespaceBlock : goal.top_faults-returns-in_ok-inside-in-NamespaceBlock
top_faults-returns-in_ok-inside-in-NamespaceBlock t c = rw (c.in-NamespaceBlock.is, top-NamespaceBlock) (rw (c.as_slice.ensures, c.in_ok-inside-in-NamespaceBlock.ensures) at c.tops_faults.ensures)
