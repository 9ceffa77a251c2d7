-- The arguments of an `exit`, over the lists of the program.
use Rattle.std.specs.Prelude.{Bool, true, false, List}
use Rattle.stan_model_grammar.specs.Trees.{Item, Positional, ends_program, arguments}
use Rattle.stan_model_grammar.specs.TreeLists.{listed}

abbrev pub is_positional : Item → Bool
is_positional (Positional e) = true
is_positional _ = false

abbrev pub is_plain : List Item → Bool → Bool
is_plain es comma = ends_program (arguments (listed es comma))
