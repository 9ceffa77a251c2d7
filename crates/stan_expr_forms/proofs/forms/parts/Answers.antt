use Rattle.std.proofs.Common.{◌≡◌, ◌++◌, ◌∷◌, [], map}
use Rattle.std.proofs.lemmas.List.{map_push}
use Rattle.stan_syntax.specs.Tree.{part_of}
use Rattle.stan_expr_rules.specs.Parse.{part_at, below}
use Rattle.stan_places.proofs.Loops.{loop_takes}
use Rattle.stan_expr_forms.proofs.forms.parts.Goals as goal

pub loop-turn-preserved : goal.loop-turn-preserved
loop-turn-preserved g c =
    let e : map part_of c.push.new.self ≡ map part_of c.loop-turn.found ++ part_of c.in-Some.item ∷ [] = rw c.in_ok-push-in-Some.ensures.ok (map_push _ c.loop-turn.found c.in-Some.item) in
    rw e (loop_takes (part_at c.args.grammar.now.tokens.now (below c.args.grammar.now.tokens.now c.args.grammar.now.depth)) _ c.loop-turn._turn (map part_of c.loop-turn.found) c.loop-turn.place _ (part_of c.in-Some.item) c.in-Some.to c.loop-turn-test.true c.loop-turn.invariant (rw c.in-Some.is at c.in_ok-part.ensures))
