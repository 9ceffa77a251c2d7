-- Function values that read types with at most so many levels.
use Rattle.std.specs.Prelude.{ℕ, ◌<◌, ◌≤◌, ◌^◌, List, Result, length}
use Rattle.std.specs.declared.alloc.Global.{Global}
use denote.Ref.{Bor}
use Rattle.stan_model_doc.specs.declared.token.DocToken.{DocToken}
use Rattle.stan_model_doc.specs.Symbols as sorts
use Rattle.stan_places.specs.declared.stop.Stop.{Stop}
use Rattle.stan_places.specs.Gives.{Gives, at}
use Rattle.stan_doc_trees.specs.declared.written.Unary.{Unary}
use Rattle.stan_doc_trees.specs.declared.written.Written.{Written}
use Rattle.stan_doc_trees.specs.Tree.{written_of, unary_of}
use Rattle.stan_doc_parts.specs.Gives.{part}

abbrev pub Pre : Type 1
Pre = Global → Bor (List DocToken) → ℕ → ℕ → Type 0

abbrev pub Post : Type 0 → Type 1
Post X = Global → Bor (List DocToken) → ℕ → ℕ → Result (X × ℕ) Stop → Type 0

pub record Nests (levels : ℕ) (may_read_written : Pre) (written : Post Written) (may_read_unary : Pre) (unary : Post Unary) : Type 0 where
  pub reads_written : (alloc : Global) (ts : Bor (List DocToken)) (n place : ℕ) → length ts.now < 2 ^ 32 → n ≤ levels → may_read_written alloc ts n place
  pub gives_written : (alloc : Global) (ts : Bor (List DocToken)) (n place : ℕ) (r : Result (Written × ℕ) Stop) → written alloc ts n place r → Gives (at written_of) r (part ts.now n sorts.Written place)
  pub reads_unary : (alloc : Global) (ts : Bor (List DocToken)) (n place : ℕ) → length ts.now < 2 ^ 32 → n ≤ levels → may_read_unary alloc ts n place
  pub gives_unary : (alloc : Global) (ts : Bor (List DocToken)) (n place : ℕ) (r : Result (Unary × ℕ) Stop) → unary alloc ts n place r → Gives (at unary_of) r (part ts.now n sorts.Unary place)
