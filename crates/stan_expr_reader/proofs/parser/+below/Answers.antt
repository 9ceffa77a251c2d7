use Rattle.std.proofs.Common.{◌≡◌, ℕ, suc, ◌-◌, ◌<◌, ap, arith}
use Rattle.stan_expr_rules.specs.Parse.{below}
use Rattle.stan_expr_reader.proofs.parser.+below.Goals as goal

deeper : {X : Type 0} (f : ℕ → X) (n : ℕ) → 0 < n → f n ≡ f (suc (n - 1))
deeper f n some = let e : n ≡ suc (n - 1) = omega arith in ap f e

pub returns-then-depth-eq0 : goal.returns-then-depth-eq0
unfolding below
returns-then-depth-eq0 t c = let none : c.args.depth ≡ 0 = omega arith in ap (λ n. below c.args.tokens.now n c.args.pattern c.args.stratum c.args.place) none

pub returns : goal.returns
unfolding below
returns t c = rw (deeper (λ n. below c.args.tokens.now n c.args.pattern c.args.stratum c.args.place) c.args.depth (omega arith)) c.strata.ensures
