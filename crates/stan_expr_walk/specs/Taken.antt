-- What functions inside promise each other: names that are no expressions.
use Rattle.std.specs.Prelude.{if◌then◌else◌, Bool, ◌&&◌, List, []}
use Rattle.stan_model_grammar.specs.Trees.{Tree, Steps}
use Rattle.stan_model_grammar.specs.TreeLists.{Operated}
use Rattle.stan_model_walk.specs.Findings.{Found, found_in}
use Rattle.stan_model_walk.specs.Nodes.{begins_with_name, takes_class, is_name, in_tree}

abbrev pub head_taken : Bool → Tree → Steps → List Found
head_taken inner e ss = if begins_with_name e ss then [] else in_tree found_in inner e

abbrev pub operand_taken : Bool → Operated → List Found
operand_taken inner x = if takes_class x.operator && is_name x.operand then [] else in_tree found_in inner x.operand
