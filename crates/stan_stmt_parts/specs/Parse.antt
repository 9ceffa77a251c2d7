-- The parser of files as a function on places, as that of `stan_stmt_rules`, over trees that hold all that the trees of statements hold:
-- the first tokens of parts, and what stands in the bodies of closures.
use Rattle.std.specs.Prelude.{ℕ, zero, suc, ◌+◌, nat_le, if◌then◌else◌, Bool, List, [], ◌∷◌, ◌++◌, length, Option, Some, None, slice_get}
use Rattle.stan_model_grammar.specs.declared.token.Token.{Token}
use Rattle.stan_model_grammar.specs.declared.token.TokenKind.{TokenKind}
use Rattle.stan_expr_rules.specs.Parse.{Read, ◌>>=◌}
use Rattle.stan_model_statements.specs.Symbols.{Sort, One, May, Many, Again, Symbol, Mark, Word, Checked, Expression, Part}
use Rattle.stan_model_statements.specs.Rules.{Rule, empty_statement, sort_of, symbols, weight}
use Rattle.stan_model_files.specs.Shapes.{Shape, nil, mark, word, none, some, has_first}
use Rattle.stan_stmt_rules.specs.Ahead.{pick_at}
use Rattle.stan_stmt_rules.specs.Parse.{after, word_at, checked_at, choose, most}

-- a part: its production, its first token if it holds that, and what it is made of
abbrev pub Piece : Type 0
Piece = Rule × Option Token × Shape

abbrev pub onto : (Shape → Shape) → Shape × ℕ → Read Shape
onto f x = Some (f x.0, x.1)

abbrev pub standing : Piece → Shape → Shape
standing p f = some p.0 p.1 p.2 f

abbrev pub optional : Option Piece → Shape → Shape
optional None f = none f
optional (Some p) f = some p.0 p.1 p.2 f

abbrev pub items : List Piece → Shape → Shape
items [] f = none f
items (p ∷ ps) f = some p.0 p.1 p.2 (items ps f)

-- what is read of an expression with the bodies of its closures: how it is put before what stands behind it
abbrev pub Putting : Type 0
Putting = Shape → Shape

-- the part that was put first
abbrev pub piece_of : Shape → Piece
piece_of (some r t ps f) = (r, t, ps)
piece_of _ = (empty_statement, None, nil)

-- Symbols one after the other, by what reads an expression, a part that stands, one that may, and all that stand behind one another.
module _ (ts : List Token) (named : Token → Bool) (value : Bool → ℕ → Read Putting) (one : Sort → ℕ → Read Piece) (may : Sort → ℕ → Read (Option Piece)) (all : Sort → ℕ → Read (List Piece)) where
  abbrev pub run_by : List Symbol → ℕ → Read Shape
  run_by [] at = Some (nil, at)
  run_by (Mark k ∷ xs) at = after ts k at >>= λ b. run_by xs b >>= onto mark
  run_by (Word ks ∷ xs) at = word_at ts ks at >>= λ t. run_by xs (at + 1) >>= onto (word t)
  run_by (Checked c ∷ xs) at = checked_at ts named c at >>= λ t. run_by xs (at + 1) >>= onto (word t)
  run_by (Expression p ∷ xs) at = value p at >>= λ v. run_by xs v.1 >>= onto v.0
  run_by (Part One s ∷ xs) at = one s at >>= λ p. run_by xs p.1 >>= onto (standing p.0)
  run_by (Part May s ∷ xs) at = may s at >>= λ p. run_by xs p.1 >>= onto (optional p.0)
  run_by (Part Many s ∷ xs) at = all s at >>= λ p. run_by xs p.1 >>= onto (items p.0)
  run_by (Part Again s ∷ xs) at = all s at >>= λ p. run_by xs p.1 >>= onto (items p.0)

-- the first token of a part that holds it
unfoldable pub first_at : List Token → Rule → ℕ → Option Token
first_at ts r at = if has_first (sort_of r) then slice_get ts at else None

-- `value room levels pattern at` is the expression that is read there, with what the bodies of its closures hold. `behind levels at` is the
-- token behind the expression there.
module _ (ts : List Token) (named : Token → Bool) (value : ℕ → ℕ → Bool → ℕ → Read Putting) (behind : ℕ → ℕ → TokenKind) where
  module _ (below : Rule → ℕ → Read Shape) (levels : ℕ) where
    abbrev pub pieced : Rule → ℕ → Read Piece
    pieced r at = below r at >>= λ p. Some ((r, first_at ts r at, p.0), p.1)

    unfoldable pub one : Sort → ℕ → Read Piece
    one s at = pick_at ts (behind levels) s at >>= λ r. pieced r at

    unfoldable pub may : Sort → ℕ → Read (Option Piece)
    may s at = choose (pick_at ts (behind levels) s at) (λ r. pieced r at >>= λ p. Some (Some p.0, p.1)) (Some (None, at))

    -- each in turn, as many as there are. The number bounds the turns.
    abbrev pub many : ℕ → Sort → List Piece → ℕ → Read (List Piece)
    many zero s found at = None
    many (suc n) s found at = choose (pick_at ts (behind levels) s at) (λ r. pieced r at >>= λ p. many n s (found ++ p.0 ∷ []) p.1) (Some (found, at))

    unfoldable pub all : Sort → ℕ → Read (List Piece)
    all s at = many (length ts + 1) s [] at

    abbrev pub run : ℕ → List Symbol → ℕ → Read Shape
    run room = run_by ts named (value room levels) one may all

  -- A production, where so many levels are open around it. The first number bounds how deep productions nest.
  abbrev pub read : ℕ → ℕ → Rule → ℕ → Read Shape
  read zero levels r at = None
  read (suc n) levels r at = if nat_le (levels + weight r) most then run (read n (levels + weight r)) (levels + weight r) n (symbols r) at else None
