use Rattle.std.proofs.Common.{arith, sym}
use Rattle.std.proofs.lemmas.Option.{slice_get_within}
use Rattle.stan_places.proofs.PlaceLemmas.{binary_size_most}
use Rattle.stan_expr_rules.specs.Parse.{below}
use Rattle.stan_expr_operators.proofs.MadeLemmas.{binary_made}
use Rattle.stan_expr_operators.proofs.operators.binary.Goals as goal

pub overflow_add-place : goal.overflow_add-place
overflow_add-place g c =
    let i = slice_get_within c.args.grammar.now.tokens.now c.args.place c.in-Some.token (sym c.in-Some.ensures) in
    let s = binary_size_most c.args.operator in
    rw c.binary_size.ensures (omega (arith, i, s, c.args.grammar.now.few))

pub returns : goal.returns
returns g c =
    let read = rw (c.right_side-side.ensures, c.fixity.ensures, c.binary_stratum.ensures, c.binary_size.ensures) at c.in_ok-right.ensures in
    rw (c.in_ok-left.ensures, c.in_ok-new.ensures) (binary_made c.args.grammar.now.tokens.now (below c.args.grammar.now.tokens.now c.args.grammar.now.depth) c.args.left c.in_ok-right.right c.in-Some.token c.args.operator c.args.place c.in_ok-right.to (sym c.in-Some.ensures) read)
