use Rattle.std.proofs.Common.{◌≡◌, ◌-◌, map}
use Rattle.stan_syntax.specs.Tree.{part_of}
use Rattle.stan_expr_rules.specs.Parse.{many, part_at, parts, below}
use Rattle.stan_expr_forms.proofs.forms.parts.Given as goal

abbrev pub invariant-loop-turn : goal.invariant-loop-turn
invariant-loop-turn g l = many (part_at l.grammar.tokens.now (below l.grammar.tokens.now l.grammar.depth)) (l._turn-end - l._turn) (map part_of l.found) l.place
    ≡ parts l.grammar.tokens.now (below l.grammar.tokens.now l.grammar.depth) l.from
