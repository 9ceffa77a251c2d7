use Rattle.std.proofs.Common.{◌≡◌, ◌-◌, map}
use Rattle.stan_syntax.specs.Tree.{suffix_of}
use Rattle.stan_expr_rules.specs.Parse.{many, suffix_at, suffixes, below}
use Rattle.stan_expr_suffixes.proofs.steps.suffixes.Given as goal

abbrev pub invariant-loop-turn : goal.invariant-loop-turn
invariant-loop-turn g l = many (suffix_at l.grammar.tokens.now (below l.grammar.tokens.now l.grammar.depth)) (l._turn-end - l._turn) (map suffix_of l.found) l.place
    ≡ suffixes l.grammar.tokens.now (below l.grammar.tokens.now l.grammar.depth) l.from
