-- What an index shows.
use Rattle.std.specs.Prelude.{List, map}
use Rattle.stan_model_table.specs.Table as model
use Rattle.stan_table.specs.Table.{node_of}
use Rattle.stan_table.specs.declared.index.Index.{Index}

-- the nodes, in order
abbrev pub index_table : Index → List model.Exported
index_table index = map node_of index.nodes.items
