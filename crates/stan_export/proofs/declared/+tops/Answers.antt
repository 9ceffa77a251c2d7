use Rattle.std.proofs.Common.{map, sym, append-nil}
use Rattle.stan_stmt_trees.proofs.TopLayers.{top-Namespace, top-NamespaceBlock, top-Use, top-UseGroup, top-Plain}
use Rattle.stan_table.specs.Table.{node_of}
use Rattle.stan_export.proofs.declared.+tops.Goals as goal

pub top_exports-returns-in-Namespace : goal.top_exports-returns-in-Namespace
top_exports-returns-in-Namespace t c = rw (c.in-Namespace.is, top-Namespace) (sym (append-nil (map node_of c.args.nodes.now.items)))

pub top_exports-returns-in-Use : goal.top_exports-returns-in-Use
top_exports-returns-in-Use t c = rw (c.in-Use.is, top-Use) (sym (append-nil (map node_of c.args.nodes.now.items)))

pub top_exports-returns-in-UseGroup : goal.top_exports-returns-in-UseGroup
top_exports-returns-in-UseGroup t c = rw (c.in-UseGroup.is, top-UseGroup) (sym (append-nil (map node_of c.args.nodes.now.items)))

pub top_exports-returns-in-Plain : goal.top_exports-returns-in-Plain
top_exports-returns-in-Plain t c = rw (c.in-Plain.is, top-Plain) c.statement_exports.ensures

pub top_exports-returns-in_ok-inside-in-NamespaceBlock : goal.top_exports-returns-in_ok-inside-in-NamespaceBlock
top_exports-returns-in_ok-inside-in-NamespaceBlock t c = rw (c.in-NamespaceBlock.is, top-NamespaceBlock) (rw (c.as_slice.ensures, c.in_ok-inside-in-NamespaceBlock.ensures) at c.tops_exports.ensures)
