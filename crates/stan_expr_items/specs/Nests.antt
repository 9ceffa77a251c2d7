-- A function value that reads what stands a level deeper.
use Rattle.std.specs.Prelude.{ℕ, ◌<◌, ◌^◌, Bool, List, Result, length}
use Rattle.std.specs.declared.alloc.Global.{Global}
use denote.Ref.{Bor}
use Rattle.stan_model_grammar.specs.declared.token.Token.{Token}
use Rattle.stan_syntax.specs.declared.tree.Expr.{Expr}
use Rattle.stan_syntax.specs.Tree.{tree_of}
use Rattle.stan_places.specs.declared.stop.Stop.{Stop}
use Rattle.stan_places.specs.Gives.{Gives, at}
use Rattle.stan_expr_rules.specs.Parse.{below}

pub record Nests (depth : ℕ) (pre : Global → Bor (List Token) → ℕ → Bool → ℕ → ℕ → Type 0)
    (post : Global → Bor (List Token) → ℕ → Bool → ℕ → ℕ → Result (Expr × ℕ) Stop → Type 0) : Type 0 where
  pub callable : (alloc : Global) (ts : Bor (List Token)) (pattern : Bool) (k place : ℕ) → length ts.now < 2 ^ 32 → pre alloc ts depth pattern k place
  pub gives : (alloc : Global) (ts : Bor (List Token)) (pattern : Bool) (k place : ℕ) (r : Result (Expr × ℕ) Stop) → post alloc ts depth pattern k place r
      → Gives (at tree_of) r (below ts.now depth pattern k place)
