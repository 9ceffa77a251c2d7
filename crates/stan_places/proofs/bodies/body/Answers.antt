use Rattle.std.proofs.Common.{arith, sym}
use Rattle.stan_model_grammar.specs.declared.token.TokenKind.TheVariants as kinds
use Rattle.stan_places.proofs.PlaceLemmas.{after_inside}
use Rattle.stan_places.proofs.bodies.body.Goals as goal

pub overflow_cast-body : goal.overflow_cast-body
overflow_cast-body c =
    let i = after_inside c.args.tokens.now kinds.LeftBrace c.args.place c.in-Some.from (sym c.in-Some.ensures) in
    omega (arith, i, c.requires)
