-- The parser as a function on places, once for all productions.
use Rattle.std.specs.Prelude.{ℕ, zero, suc, ◌+◌, ◌-◌, ◌&&◌, not, nat_le, if◌then◌else◌, Bool, true, List, [], ◌∷◌, ◌++◌, length, Option, Some, None, slice_get}
use Rattle.stan_model_grammar.specs.declared.token.Token.{Token}
use Rattle.stan_model_grammar.specs.declared.token.TokenKind.{TokenKind}
use Rattle.stan_model_grammar.specs.declared.token.TokenKind.TheVariants as k
use Rattle.stan_model_grammar.specs.Depth.{depth}
use Rattle.stan_model_grammar.specs.Strata.{kind_at, is_end, loosest}
use Rattle.stan_model_grammar.specs.Trees.{Tree}
use Rattle.stan_expr_rules.specs.Parse.{Read, ◌>>=◌, strata, below}
use Rattle.stan_model_statements.specs.Kinds.{same_kind, has}
use Rattle.stan_model_statements.specs.Grammar.{checked_kinds}
use Rattle.stan_model_statements.specs.Symbols.{Sort, One, May, Many, Again, Check, strict_types, modifier, Symbol, Mark, Word, Checked, Expression, Part}
use Rattle.stan_model_statements.specs.Rules.{Rule, symbols, weight}
use Rattle.stan_model_statements.specs.Forests.{Forest, nil, mark, word, expr, none, some}
use Rattle.stan_stmt_rules.specs.Ahead.{pick_at}

-- ---- tokens

abbrev pub after_of : Option Token → TokenKind → ℕ → Option ℕ
after_of None kind at = None
after_of (Some t) kind at = if same_kind t.kind kind then Some (at + 1) else None

-- the place behind a token of this kind, if one stands there
unfoldable pub after : List Token → TokenKind → ℕ → Option ℕ
after ts kind at = after_of (slice_get ts at) kind at

abbrev pub word_of : Option Token → List TokenKind → Option Token
word_of None ks = None
word_of (Some t) ks = if has ks t.kind then Some t else None

-- the token there, if it is of one of these kinds
unfoldable pub word_at : List Token → List TokenKind → ℕ → Option Token
word_at ts ks at = word_of (slice_get ts at) ks

abbrev pub holds : (Token → Bool) → Check → Token → TokenKind → Bool
holds named strict_types t next = named t
holds named modifier t next = not (same_kind next k.Bar)

abbrev pub checked_of : (Token → Bool) → Option Token → Check → TokenKind → Option Token
checked_of named None c next = None
checked_of named (Some t) c next = if has (checked_kinds c) t.kind && holds named c t next then Some t else None

-- the token there, if it is what is asked for
unfoldable pub checked_at : List Token → (Token → Bool) → Check → ℕ → Option Token
checked_at ts named c at = checked_of named (slice_get ts at) c (kind_at ts (at + 1))

-- how many levels may be open
abbrev pub most : ℕ
most = 200

-- ---- expressions

-- what was read, if an end token follows and it is not too deep where this many levels are open
abbrev pub fitting : List Token → ℕ → Read Tree → Read Tree
fitting ts levels None = None
fitting ts levels (Some x) = if is_end (kind_at ts x.1) && nat_le (depth x.0 + levels) most then Some x else None

-- the expression there, which may be a pattern or not
abbrev pub expression : List Token → ℕ → Bool → ℕ → Read Tree
expression ts levels pattern at = fitting ts levels (strata ts (below ts (most - levels)) pattern (loosest - 5) at)

abbrev pub behind_of : List Token → Read Tree → TokenKind
behind_of ts None = k.End
behind_of ts (Some x) = kind_at ts x.1

-- the token behind the expression there
abbrev pub behind : List Token → ℕ → ℕ → TokenKind
behind ts levels at = behind_of ts (expression ts levels true at)

-- ---- productions

abbrev pub choose : {A B : Type 0} → Option A → (A → B) → B → B
choose (Some x) f other = f x
choose None f other = other

-- a part: its production, and what it is made of
abbrev pub Piece : Type 0
Piece = Rule × Forest

abbrev pub onto : (Forest → Forest) → Forest × ℕ → Read Forest
onto f x = Some (f x.0, x.1)

abbrev pub standing : Piece → Forest → Forest
standing p f = some p.0 p.1 f

abbrev pub optional : Option Piece → Forest → Forest
optional None f = none f
optional (Some p) f = some p.0 p.1 f

abbrev pub items : List Piece → Forest → Forest
items [] f = none f
items (p ∷ ps) f = some p.0 p.1 (items ps f)

-- Symbols one after the other, by what reads an expression, a part that stands, one that may, and all that stand behind one another.
module _ (ts : List Token) (named : Token → Bool) (expression : Bool → ℕ → Read Tree) (one : Sort → ℕ → Read Piece) (may : Sort → ℕ → Read (Option Piece)) (all : Sort → ℕ → Read (List Piece)) where
  abbrev pub run_by : List Symbol → ℕ → Read Forest
  run_by [] at = Some (nil, at)
  run_by (Mark k ∷ xs) at = after ts k at >>= λ b. run_by xs b >>= onto mark
  run_by (Word ks ∷ xs) at = word_at ts ks at >>= λ t. run_by xs (at + 1) >>= onto (word t)
  run_by (Checked c ∷ xs) at = checked_at ts named c at >>= λ t. run_by xs (at + 1) >>= onto (word t)
  run_by (Expression p ∷ xs) at = expression p at >>= λ e. run_by xs e.1 >>= onto (expr e.0)
  run_by (Part One s ∷ xs) at = one s at >>= λ p. run_by xs p.1 >>= onto (standing p.0)
  run_by (Part May s ∷ xs) at = may s at >>= λ p. run_by xs p.1 >>= onto (optional p.0)
  run_by (Part Many s ∷ xs) at = all s at >>= λ p. run_by xs p.1 >>= onto (items p.0)
  run_by (Part Again s ∷ xs) at = all s at >>= λ p. run_by xs p.1 >>= onto (items p.0)

-- `expression levels pattern at` is the tree that is read there, where this many levels are open. `behind levels at` is the token behind
-- the expression there.
module _ (ts : List Token) (named : Token → Bool) (expression : ℕ → Bool → ℕ → Read Tree) (behind : ℕ → ℕ → TokenKind) where
  module _ (below : Rule → ℕ → Read Forest) (levels : ℕ) where
    abbrev pub pieced : Rule → ℕ → Read Piece
    pieced r at = below r at >>= λ p. Some ((r, p.0), p.1)

    unfoldable pub one : Sort → ℕ → Read Piece
    one s at = pick_at ts (behind levels) s at >>= λ r. pieced r at

    unfoldable pub may : Sort → ℕ → Read (Option Piece)
    may s at = choose (pick_at ts (behind levels) s at) (λ r. pieced r at >>= λ p. Some (Some p.0, p.1)) (Some (None, at))

    -- each in turn, as many as there are. The number bounds the turns.
    abbrev pub many : ℕ → Sort → List Piece → ℕ → Read (List Piece)
    many zero s found at = None
    many (suc n) s found at = choose (pick_at ts (behind levels) s at) (λ r. pieced r at >>= λ p. many n s (found ++ p.0 ∷ []) p.1) (Some (found, at))

    unfoldable pub all : Sort → ℕ → Read (List Piece)
    all s at = many (length ts + 1) s [] at

    abbrev pub run : List Symbol → ℕ → Read Forest
    run = run_by ts named (expression levels) one may all

  -- A production, where so many levels are open around it. The first number bounds how deep productions nest.
  abbrev pub read : ℕ → ℕ → Rule → ℕ → Read Forest
  read zero levels r at = None
  read (suc n) levels r at = if nat_le (levels + weight r) most then run (read n (levels + weight r)) (levels + weight r) (symbols r) at else None
