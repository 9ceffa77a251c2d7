-- Nodes that were read, with what stands behind them.
use Rattle.std.specs.Prelude.{ℕ, List, drop}
use Rattle.stan_model_neon.specs.declared.node.Node.{Node}
use Rattle.stan_neon_scalars.specs.declared.scalars.ReadNode.{ReadNode}
use Rattle.stan_neon_scalars.specs.declared.scalars.ReadNodes.{ReadNodes}

abbrev pub read_node : List ℕ → ReadNode → Node × List ℕ
read_node bytes read = (read.node, drop read.end bytes)

abbrev pub read_nodes : List ℕ → ReadNodes → List Node × List ℕ
read_nodes bytes read = (read.nodes, drop read.end bytes)
