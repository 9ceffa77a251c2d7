-- Function values that read expressions and statements.
use Rattle.std.specs.Prelude.{ℕ, ◌<◌, ◌^◌, Bool, List, Result, length}
use Rattle.std.specs.declared.alloc.Global.{Global}
use denote.Ref.{Bor}
use Rattle.stan_model_grammar.specs.declared.token.Token.{Token}
use Rattle.stan_model_statements.specs.Symbols.{Statement}
use Rattle.stan_expr_rules.specs.Parse.{below}
use Rattle.stan_syntax.specs.declared.tree.Expr.{Expr}
use Rattle.stan_syntax.specs.Tree.{tree_of}
use Rattle.stan_places.specs.declared.stop.Stop.{Stop}
use Rattle.stan_places.specs.Gives.{Gives, at}
use Rattle.stan_stmt_trees.specs.declared.statement.Stmt.{Stmt}
use Rattle.stan_stmt_trees.specs.declared.statement.Value.{Value}
use Rattle.stan_stmt_parts.specs.declared.depth.Depth.{Depth}
use Rattle.stan_stmt_parts.specs.Gives.{part, putting, statement_piece}
use Rattle.stan_stmt_bodies.specs.Values.{leaves_of}

-- what stands a level deeper in an expression
pub record ReadsBelow (pre : Global → Bor (List Token) → ℕ → Bool → ℕ → ℕ → Type 0) (post : Global → Bor (List Token) → ℕ → Bool → ℕ → ℕ → Result (Expr × ℕ) Stop → Type 0) : Type 0 where
  pub callable : (alloc : Global) (ts : Bor (List Token)) (levels : ℕ) (pattern : Bool) (k place : ℕ) → length ts.now < 2 ^ 32 → pre alloc ts levels pattern k place
  pub gives : (alloc : Global) (ts : Bor (List Token)) (levels : ℕ) (pattern : Bool) (k place : ℕ) (r : Result (Expr × ℕ) Stop) → post alloc ts levels pattern k place r
      → Gives (at tree_of) r (below ts.now levels pattern k place)

-- an expression with its bodies, with less room
pub record NestsValues (room : ℕ) (pre : Global → Bor (List Token) → Bor (List ℕ) → Depth → Bool → ℕ → Type 0)
    (post : Global → Bor (List Token) → Bor (List ℕ) → Depth → Bool → ℕ → Result (Value × ℕ) Stop → Type 0) : Type 0 where
  pub callable : (alloc : Global) (ts : Bor (List Token)) (bytes : Bor (List ℕ)) (d : Depth) (pattern : Bool) (place : ℕ) → length ts.now < 2 ^ 32 → d.room < room → pre alloc ts bytes d pattern place
  pub gives : (alloc : Global) (ts : Bor (List Token)) (bytes : Bor (List ℕ)) (d : Depth) (pattern : Bool) (place : ℕ) (r : Result (Value × ℕ) Stop) → post alloc ts bytes d pattern place r
      → Gives (at putting) r ((leaves_of bytes.now).value ts.now d.room d.levels pattern place)

-- a statement as a part of another, with less room
pub record NestsStatements (room : ℕ) (pre : Global → Bor (List Token) → Bor (List ℕ) → Depth → ℕ → Type 0)
    (post : Global → Bor (List Token) → Bor (List ℕ) → Depth → ℕ → Result (Stmt × ℕ) Stop → Type 0) : Type 0 where
  pub callable : (alloc : Global) (ts : Bor (List Token)) (bytes : Bor (List ℕ)) (d : Depth) (place : ℕ) → length ts.now < 2 ^ 32 → d.room < room → pre alloc ts bytes d place
  pub gives : (alloc : Global) (ts : Bor (List Token)) (bytes : Bor (List ℕ)) (d : Depth) (place : ℕ) (r : Result (Stmt × ℕ) Stop) → post alloc ts bytes d place r
      → Gives (at statement_piece) r (part ts.now (leaves_of bytes.now) d Statement place)
