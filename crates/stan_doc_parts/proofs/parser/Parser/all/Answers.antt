use Rattle.std.proofs.Common.{◌≡◌, ◌∙◌, ◌+◌, refl, sym, ap, map, ◌++◌, ◌∷◌, [], Some, length, arith}
use Rattle.std.proofs.lemmas.List.{map_push}
use Rattle.stan_doc_parts.specs.Gives.{every, gather}
use Rattle.stan_doc_parts.proofs.Turns.{turn_takes, turn_ends, turns_end}
use Rattle.stan_doc_parts.proofs.parser.Parser.all.Goals as goal

pub returns-in-Err-Absent : goal.returns-in-Err-Absent
unfolding every
returns-in-Err-Absent g c =
    let ts = c.args.self.now.tokens.now in
    let total = gather ts c.args.levels (length ts + 1) g.T.Part.sort [] c.args.from in
    ap Some (turn_ends ts c.args.levels g.T.Part.sort (length ts + 1) c.loop-turn._turn (map g.T.Part.view c.loop-turn.found) c.loop-turn.place total c.loop-turn-test.true c.loop-turn.invariant (rw c.in-Err-Absent.field-0-is at c.in-Err-Absent.ensures))

pub loop-turn-preserved : goal.loop-turn-preserved
loop-turn-preserved g c =
    let e : map g.T.Part.view c.push.new.self ≡ map g.T.Part.view c.loop-turn.found ++ g.T.Part.view c.in-Ok.part ∷ [] = rw c.in_ok-push-in-Ok.ensures.ok (map_push _ c.loop-turn.found c.in-Ok.part) in
    let ts = c.args.self.now.tokens.now in
    let total = gather ts c.args.levels (length ts + 1) g.T.Part.sort [] c.args.from in
    rw e (turn_takes ts c.args.levels g.T.Part.sort (length ts + 1) c.loop-turn._turn (map g.T.Part.view c.loop-turn.found) c.loop-turn.place total (g.T.Part.view c.in-Ok.part) c.in-Ok.to c.loop-turn-test.true c.loop-turn.invariant c.in-Ok.ensures)

pub returns : goal.returns
unfolding every
returns g c =
    let ts = c.args.self.now.tokens.now in
    let total = gather ts c.args.levels (length ts + 1) g.T.Part.sort [] c.args.from in
    ap Some (turns_end ts c.args.levels g.T.Part.sort (length ts + 1) c.loop-turn._turn (map g.T.Part.view c.loop-turn.found) c.loop-turn.place total (omega (arith, c.loop-turn-test.false)) c.loop-turn.invariant)
