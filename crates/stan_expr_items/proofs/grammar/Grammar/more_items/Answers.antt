use Rattle.std.proofs.Common.{◌≡◌, ◌++◌, ◌∷◌, [], map}
use Rattle.std.proofs.lemmas.List.{map_push}
use Rattle.stan_expr_rules.specs.Parse.{further_item, below}
use Rattle.stan_places.proofs.Loops.{loop_takes}
use Rattle.stan_expr_items.proofs.grammar.Grammar.more_items.Goals as goal

pub loop-turn-preserved : goal.loop-turn-preserved
loop-turn-preserved g c =
    let e : map g.T.Listed.item c.push-in-Some.new.self ≡ map g.T.Listed.item c.loop-turn.found ++ g.T.Listed.item c.in-Some.item ∷ [] = rw c.in_ok-push-in-Some.ensures.ok (map_push _ c.loop-turn.found c.in-Some.item) in
    rw e (loop_takes (further_item c.args.self.now.tokens.now (below c.args.self.now.tokens.now c.args.self.now.depth) (g.T.Listed.rule c.args.self.now.tokens.now (below c.args.self.now.tokens.now c.args.self.now.depth)) c.args.closing) _ c.loop-turn._turn (map g.T.Listed.item c.loop-turn.found) c.loop-turn.place _ (g.T.Listed.item c.in-Some.item) c.in-Some.to c.loop-turn-test.true c.loop-turn.invariant (rw c.in-Some.is at c.in_ok-further.ensures))
