-- What the methods of the parser give, by the parser on places.
use Rattle.std.specs.Prelude.{ℕ, ◌+◌, ◌-◌, ◌<◌, ◌^◌, nat_le, if◌then◌else◌, Bool, List, length, Option, Some, None, Result}
use Rattle.std.specs.declared.alloc.Global.{Global}
use Rattle.stan_model_grammar.specs.declared.token.Token.{Token}
use Rattle.stan_expr_rules.specs.Parse.{Read, ◌>>=◌}
use Rattle.stan_model_statements.specs.Symbols.{Sort, Symbol}
use Rattle.stan_model_statements.specs.Rules.{Rule, symbols, weight}
use Rattle.stan_model_files.specs.Put.{put, put_value}
use Rattle.stan_model_files.specs.Shapes.{Shape, nil}
use Rattle.stan_stmt_rules.specs.Parse.{behind, most}
use Rattle.stan_stmt_trees.specs.Tree.{statement_of, value_of}
use Rattle.stan_stmt_trees.specs.declared.statement.Stmt.{Stmt}
use Rattle.stan_stmt_trees.specs.declared.statement.Value.{Value}
use Rattle.stan_stmt_parts.specs.declared.depth.Depth.{Depth}
use Rattle.stan_stmt_parts.specs.Parse.{Piece, Putting, piece_of, first_at, one, may, all, run_by, read}

-- What productions end in, besides tokens by their kinds: which token is the word `strict_types`, and which expression is read at a place,
-- with how deep productions may still nest, how many levels are open, and whether it may be a pattern.
pub record Leaves : Type 0 where
  pub named : Token → Bool
  pub value : List Token → ℕ → ℕ → Bool → ℕ → Read Putting

module _ (ts : List Token) (l : Leaves) (d : Depth) where
  abbrev pub below : Rule → ℕ → Read Shape
  below = read ts l.named (l.value ts) (behind ts) d.room d.levels

  -- a part that stands, one that may, all that stand behind one another, and symbols
  unfoldable pub part : Sort → ℕ → Read Piece
  part s place = one ts l.named (l.value ts) (behind ts) below d.levels s place

  unfoldable pub maybe : Sort → ℕ → Read (Option Piece)
  maybe s place = may ts l.named (l.value ts) (behind ts) below d.levels s place

  unfoldable pub every : Sort → ℕ → Read (List Piece)
  every s place = all ts l.named (l.value ts) (behind ts) below d.levels s place

  unfoldable pub inside : List Symbol → ℕ → Read Shape
  inside xs place = run_by ts l.named (l.value ts d.room d.levels) part maybe every xs place

  -- a production where so many levels are open
  abbrev pub made : Rule → ℕ → Read Piece
  made r place = inside (symbols r) place >>= λ p. Some ((r, first_at ts r place, p.0), p.1)

-- the depth inside a production that opens so many levels
abbrev pub enter : Depth → ℕ → Option Depth
enter d w = if nat_le 1 d.room then (if nat_le (d.levels + w) most then Some (record { room = d.room - 1; levels = d.levels + w }) else None) else None

-- a production there
unfoldable pub entered : List Token → Leaves → Depth → Rule → ℕ → Read Piece
entered ts l d r place = enter d (weight r) >>= λ e. made ts l e r place

-- a value as it is put before what stands behind it
abbrev pub putting : Value → Putting
putting v = put_value (value_of v)

-- a statement as a part
unfoldable pub statement_piece : Stmt → Piece
statement_piece s = piece_of (put (statement_of s) nil)
