-- The values of a text, by their variants.
use Rattle.std.specs.Prelude.{ℕ, ℤ, Bool, List}
use Rattle.stan_model_neon.specs.declared.node.Node.{Node, roll-Node}
use Rattle.stan_model_neon.specs.declared.node.Node.TheOpen.{Node-F}

abbrev pub Null : Node
Null = roll-Node Node-F.Null

abbrev pub Truth : Bool → Node
Truth b = roll-Node (Node-F.Bool b)

abbrev pub Int : ℤ → Node
Int n = roll-Node (Node-F.Int n)

abbrev pub Text : List ℕ → Node
Text bytes = roll-Node (Node-F.Text bytes)

abbrev pub Listed : List Node → Node
Listed nodes = roll-Node (Node-F.List nodes)

abbrev pub Mapped : List (List ℕ × Node) → Node
Mapped pairs = roll-Node (Node-F.Map pairs)
