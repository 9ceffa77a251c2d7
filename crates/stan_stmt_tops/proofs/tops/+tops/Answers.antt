use Rattle.std.proofs.Common.{◌≡◌, ◌∙◌, refl, sym, map, ◌++◌, ◌∷◌, [], arith}
use Rattle.std.proofs.lemmas.List.{map_push}
use Rattle.std.proofs.lemmas.Result.{err_from_is_err_and}
use Rattle.stan_model_statements.specs.Symbols.{Top}
use Rattle.stan_stmt_rules.specs.Parse.{behind}
use Rattle.stan_stmt_parts.specs.Gives.{every}
use Rattle.stan_stmt_parts.proofs.Turns.{first_turn, turn_takes, turn_fails}
use Rattle.stan_stmt_tops.specs.Views.{top_piece}
use Rattle.stan_stmt_tops.proofs.tops.+tops.Goals as goal

pub all_tops-loop-turn-init : goal.all_tops-loop-turn-init
all_tops-loop-turn-init g t c =
    let nothing : map top_piece c.new-found.result ≡ [] = rw c.new-found.ensures refl in
    rw nothing (first_turn c.args.parser.now.tokens.now (g.R.Reader.leaves c.args.parser.now.reader) c.args.depth Top _ c.args.from (omega arith))

pub all_tops-returns-in_err-top : goal.all_tops-returns-in_err-top
all_tops-returns-in_err-top g t c =
    let p = err_from_is_err_and c.from_residual.result c.from_residual.ensures.1 in
    let leaves = g.R.Reader.leaves c.args.parser.now.reader in
    rw (p.1, p.2) (turn_fails c.args.parser.now.tokens.now leaves c.args.depth Top _ c.loop-turn._turn (map top_piece c.loop-turn.found) c.loop-turn.place (every c.args.parser.now.tokens.now leaves c.args.depth Top c.args.from) c.in_err-top.field-0.0
    c.loop-turn-test.true c.loop-turn.invariant (sym (c.begins_top.ensures (behind c.args.parser.now.tokens.now c.args.depth.levels)) ∙ c.if-not-begins_top.false) c.in_err-top.ensures)

pub all_tops-loop-turn-preserved : goal.all_tops-loop-turn-preserved
all_tops-loop-turn-preserved g t c =
    let e : map top_piece c.push.new.self ≡ map top_piece c.loop-turn.found ++ top_piece c.in_ok-top.top ∷ [] = rw c.in_ok-push.ensures.ok (map_push _ c.loop-turn.found c.in_ok-top.top) in
    let leaves = g.R.Reader.leaves c.args.parser.now.reader in
    rw e (turn_takes c.args.parser.now.tokens.now leaves c.args.depth Top _ c.loop-turn._turn (map top_piece c.loop-turn.found) c.loop-turn.place (every c.args.parser.now.tokens.now leaves c.args.depth Top c.args.from) (top_piece c.in_ok-top.top) c.in_ok-top.to
    c.loop-turn-test.true c.loop-turn.invariant (sym (c.begins_top.ensures (behind c.args.parser.now.tokens.now c.args.depth.levels)) ∙ c.if-not-begins_top.false) c.in_ok-top.ensures)
