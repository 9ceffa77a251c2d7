use Rattle.std.proofs.Common.{◌≡◌, ◌-◌, map}
use Rattle.stan_expr_rules.specs.Parse.{many, further_item, more_items, below}
use Rattle.stan_expr_items.proofs.grammar.Grammar.more_items.Given as goal

abbrev pub invariant-loop-turn : goal.invariant-loop-turn
invariant-loop-turn g l =
    many (further_item l.self.tokens.now (below l.self.tokens.now l.self.depth) (g.T.Listed.rule l.self.tokens.now (below l.self.tokens.now l.self.depth)) l.closing) (l._turn-end - l._turn) (map g.T.Listed.item l.found) l.place
    ≡ more_items l.self.tokens.now (below l.self.tokens.now l.self.depth) (g.T.Listed.rule l.self.tokens.now (below l.self.tokens.now l.self.depth)) l.closing (g.T.Listed.item l.fn.first) l.from
