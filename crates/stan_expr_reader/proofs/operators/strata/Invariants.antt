use Rattle.std.proofs.Common.{◌≡◌, ◌≤◌, max, ◌-◌, Some}
use Rattle.stan_syntax.specs.Tree.{tree_of}
use Rattle.stan_expr_rules.specs.Parse.{strata, below}
use Rattle.stan_expr_reader.proofs.operators.strata.Given as goal

-- the strata up to `done` are read
abbrev pub invariant-loop-done : goal.invariant-loop-done
invariant-loop-done g l = record {
  read : strata l.grammar.tokens.now (below l.grammar.tokens.now l.grammar.depth) l.pattern (l.done - 5) l.place ≡ Some (tree_of l.left, l.to);
  least : 5 ≤ l.done;
  most : l.done ≤ max 5 l.stratum;
}

abbrev pub decreases-loop-done : goal.decreases-loop-done
decreases-loop-done g l = l.stratum - l.done
