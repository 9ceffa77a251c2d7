use Rattle.std.proofs.Common.{◌≡◌, ◌-◌, map}
use Rattle.stan_syntax.specs.Tree.{operation_of}
use Rattle.stan_expr_rules.specs.Parse.{many, operation_at, operations, below}
use Rattle.stan_expr_operators.proofs.operators.operations.Given as goal

abbrev pub invariant-loop-turn : goal.invariant-loop-turn
invariant-loop-turn g l = many (operation_at l.grammar.tokens.now (below l.grammar.tokens.now l.grammar.depth) l.stratum) (l._turn-end - l._turn) (map operation_of l.found) l.place
    ≡ operations l.grammar.tokens.now (below l.grammar.tokens.now l.grammar.depth) l.stratum l.from
