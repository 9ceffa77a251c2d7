use Rattle.std.proofs.Common.{◌≤◌, map, take, length, vec_len}
use Rattle.std.specs.List.{sum_by}
use Rattle.stan_table.specs.Table.{node_of}
use Rattle.stan_cli.specs.Report.{IsTable}
use Rattle.stan_cli.specs.Sources.{source_bytes}
use Rattle.stan_cli.proofs.analysis.index_of.Given as goal

-- the nodes of the sources so far, of which there are no more than bytes
abbrev pub invariant-loop-source : goal.invariant-loop-source
invariant-loop-source l = record {
  nodes : IsTable (take l.source-index (map source_bytes l.sources)) (map node_of l.nodes.items);
  few : vec_len l.nodes ≤ sum_by length (take l.source-index (map source_bytes l.sources));
}
