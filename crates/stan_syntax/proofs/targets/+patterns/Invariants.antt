use Rattle.std.proofs.Common.{◌≡◌, false, take, map}
use Rattle.stan_model_grammar.specs.Trees.{further_pattern}
use Rattle.stan_model_grammar.specs.TreeLists.{furthers}
use Rattle.stan_syntax.specs.Tree.{element_of}
use Rattle.stan_syntax.proofs.targets.+patterns.Given as goal

abbrev pub invariant-any_pattern-loop-element : goal.invariant-any_pattern-loop-element
invariant-any_pattern-loop-element l = further_pattern (furthers (map element_of (take l.element-index l.elements))) ≡ false
