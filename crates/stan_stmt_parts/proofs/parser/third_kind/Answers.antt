use Rattle.std.proofs.Common.{◌≡◌, arith, refl, subst, sym, ◌+◌}
use Rattle.std.proofs.lemmas.Option.{slice_get_past}
use Rattle.stan_model_grammar.specs.Strata.{kind_at}
use Rattle.stan_stmt_parts.proofs.parser.third_kind.Goals as goal

pub returns-then-place-tokens : goal.returns-then-place-tokens
returns-then-place-tokens c =
    let same : c.args.place + 1 + 1 ≡ c.args.place + 2 = omega arith in
    subst (λ n. c.next_kind.result ≡ kind_at c.args.tokens.now n) same c.next_kind.ensures

pub returns-else-place-tokens : goal.returns-else-place-tokens
unfolding kind_at
returns-else-place-tokens c = rw (slice_get_past c.args.tokens.now (c.args.place + 2) (omega arith)) refl
