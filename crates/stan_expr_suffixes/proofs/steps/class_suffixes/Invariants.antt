use Rattle.std.proofs.Common.{◌≡◌, ◌-◌, map}
use Rattle.stan_syntax.specs.Tree.{suffix_of}
use Rattle.stan_expr_rules.specs.Parse.{many, class_suffix_at, class_suffixes, below}
use Rattle.stan_expr_suffixes.proofs.steps.class_suffixes.Given as goal

abbrev pub invariant-loop-turn : goal.invariant-loop-turn
invariant-loop-turn g l = many (class_suffix_at l.grammar.tokens.now (below l.grammar.tokens.now l.grammar.depth)) (l._turn-end - l._turn) (map suffix_of l.found) l.place
    ≡ class_suffixes l.grammar.tokens.now (below l.grammar.tokens.now l.grammar.depth) l.from
