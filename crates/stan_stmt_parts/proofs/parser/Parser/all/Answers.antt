use Rattle.std.proofs.Common.{◌≡◌, ◌∙◌, refl, sym, map, ◌++◌, ◌∷◌, [], arith}
use Rattle.std.proofs.lemmas.List.{map_push}
use Rattle.std.proofs.lemmas.Result.{err_from_is_err_and}
use Rattle.stan_stmt_rules.specs.Parse.{behind}
use Rattle.stan_stmt_parts.specs.Gives.{every}
use Rattle.stan_stmt_parts.proofs.Turns.{first_turn, turn_takes, turn_fails}
use Rattle.stan_stmt_parts.proofs.parser.Parser.all.Goals as goal

pub loop-turn-init : goal.loop-turn-init
loop-turn-init g c =
    let nothing : map g.T.Part.view c.new-found.result ≡ [] = rw c.new-found.ensures refl in
    rw nothing (first_turn c.args.self.now.tokens.now (g.R.Reader.leaves c.args.self.now.reader) c.args.depth g.T.Part.sort _ c.args.from (omega arith))

pub returns-in_err-part : goal.returns-in_err-part
returns-in_err-part g c =
    let p = err_from_is_err_and c.from_residual.result c.from_residual.ensures.1 in
    let leaves = g.R.Reader.leaves c.args.self.now.reader in
    rw (p.1, p.2) (turn_fails c.args.self.now.tokens.now leaves c.args.depth g.T.Part.sort _ c.loop-turn._turn (map g.T.Part.view c.loop-turn.found) c.loop-turn.place (every c.args.self.now.tokens.now leaves c.args.depth g.T.Part.sort c.args.from) c.in_err-part.field-0.0
    c.loop-turn-test.true c.loop-turn.invariant (sym (c.begins.ensures (behind c.args.self.now.tokens.now c.args.depth.levels)) ∙ c.if-not-begins.false) c.in_err-part.ensures)

pub loop-turn-preserved : goal.loop-turn-preserved
loop-turn-preserved g c =
    let e : map g.T.Part.view c.push.new.self ≡ map g.T.Part.view c.loop-turn.found ++ g.T.Part.view c.in_ok-part.part ∷ [] = rw c.in_ok-push.ensures.ok (map_push _ c.loop-turn.found c.in_ok-part.part) in
    let leaves = g.R.Reader.leaves c.args.self.now.reader in
    rw e (turn_takes c.args.self.now.tokens.now leaves c.args.depth g.T.Part.sort _ c.loop-turn._turn (map g.T.Part.view c.loop-turn.found) c.loop-turn.place (every c.args.self.now.tokens.now leaves c.args.depth g.T.Part.sort c.args.from) (g.T.Part.view c.in_ok-part.part) c.in_ok-part.to
    c.loop-turn-test.true c.loop-turn.invariant (sym (c.begins.ensures (behind c.args.self.now.tokens.now c.args.depth.levels)) ∙ c.if-not-begins.false) c.in_ok-part.ensures)
