-- What may be assigned to, over the lists of the program.
use Rattle.std.specs.Prelude.{Bool, true, false, List, [], ◌∷◌}
use Rattle.stan_model_grammar.specs.declared.operators.ArrayStyle.{ArrayStyle}
use Rattle.stan_model_grammar.specs.declared.operators.ArrayStyle.TheVariants as styles
use Rattle.stan_model_grammar.specs.declared.operators.Leaf.{Leaf}
use Rattle.stan_model_grammar.specs.declared.operators.Leaf.TheVariants as leaves
use Rattle.stan_model_grammar.specs.Expressions as grammar
use Rattle.stan_model_grammar.specs.Trees.{Item, Step, further_pattern}
use Rattle.stan_model_grammar.specs.TreeLists.{furthers, steps}

abbrev pub is_pattern_array : ArrayStyle → List Item → Bool
is_pattern_array styles.List es = true
is_pattern_array _ es = further_pattern (furthers es)

abbrev pub is_variable_leaf : Leaf → Bool
is_variable_leaf leaves.Variable = true
is_variable_leaf _ = false

-- the last one is a place
abbrev pub ends_in_place : List Step → Bool
ends_in_place [] = false
ends_in_place (s ∷ ss) = grammar.ends_in_place s (steps ss)
