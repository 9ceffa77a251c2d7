use Rattle.std.proofs.Common.{arith, sym, ◌∙◌}
use Rattle.stan_places.proofs.PlaceLemmas.{assigning_inside, assignment_size_most}
use Rattle.stan_expr_reader.proofs.operands.target.Goals as goal

pub target_by-requires-clause-there : goal.target_by-requires-clause-there
target_by-requires-clause-there g c = λ o e.
    let i = assigning_inside c.args.grammar.now.tokens.now c.in_ok-e.to o (sym c.assigning_at.ensures ∙ e) in
    let s = assignment_size_most o in
    omega (arith, i, s, c.args.grammar.now.few)
