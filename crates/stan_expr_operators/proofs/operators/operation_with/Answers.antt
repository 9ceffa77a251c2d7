use Rattle.std.proofs.Common.{arith, sym}
use Rattle.std.proofs.lemmas.Option.{slice_get_within}
use Rattle.stan_places.proofs.PlaceLemmas.{binary_size_most}
use Rattle.stan_expr_operators.proofs.operators.operation_with.Goals as goal

pub overflow_add-place : goal.overflow_add-place
overflow_add-place g c =
    let i = slice_get_within c.args.grammar.now.tokens.now c.args.place c.in-Some.token (sym c.in-Some.ensures) in
    let s = binary_size_most c.args.operator in
    rw c.binary_size.ensures (omega (arith, i, s, c.args.grammar.now.few))
