-- The program's nodes as the definitions see them.
use Rattle.std.specs.Prelude.{ℕ, List}
use Rattle.stan_base.specs.Name.{name_bytes}
use Rattle.stan_model_table.specs.Table as model
use Rattle.stan_table.specs.declared.exported.Exported.{Exported}
use Rattle.stan_table.specs.declared.exported.Exported.TheVariants.{Class, Function, Constant}

abbrev pub node_of : Exported → model.Exported
node_of (Class node) = model.Class (record { name = name_bytes node.name })
node_of (Function node) = model.Function (record { name = name_bytes node.name })
node_of (Constant node) = model.Constant (record { name = name_bytes node.name })

-- the full name
abbrev pub declared_name : Exported → List ℕ
declared_name node = model.name_of (node_of node)
