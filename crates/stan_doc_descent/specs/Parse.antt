-- The reader of a production as a function on places: each part is tried, and where it is not read the reader goes on without it.
use Rattle.std.specs.Prelude.{ℕ, zero, suc, ◌+◌, ◌||◌, ◌&&◌, max, nat_le, if◌then◌else◌, List, [], ◌∷◌, length, drop, Option, Some, None, slice_get, slice_range}
use Rattle.stan_model_doc.specs.declared.token.DocKind.{DocKind}
use Rattle.stan_model_doc.specs.declared.token.DocToken.{DocToken}
use Rattle.stan_model_doc.specs.Tokens.{same_kind, has}
use Rattle.stan_model_doc.specs.Symbols.{Sort, One, May, Many, Stop, Symbol, Mark, Word, Any, Part}
use Rattle.stan_model_doc.specs.Rules.{Rule, order}
use Rattle.stan_model_doc.specs.Trees.{Forest, nil, mark, word, any, none, some}
use Rattle.stan_model_doc.specs.Grammar.{closer, is_closer, stops, matches}

abbrev pub Read : Type 0 → Type 0
Read A = Option (A × ℕ)

infixl 10 ◌>>=◌
abbrev pub ◌>>=◌ : {A B : Type 0} → Option A → (A → Option B) → Option B
(Some x) >>= f = f x
None >>= f = None

abbrev pub choose : {A B : Type 0} → Option A → (A → B) → B → B
choose (Some x) f other = f x
choose None f other = other

-- a part: its production, and what it is made of
abbrev pub Piece : Type 0
Piece = Rule × Forest

abbrev pub onto : (Forest → Forest) → Forest × ℕ → Read Forest
onto f x = Some (f x.0, x.1)

abbrev pub standing : Piece → Forest → Forest
standing p f = some p.0 p.1 f

-- ---- tokens

abbrev pub after_of : Option DocToken → DocKind → ℕ → Option ℕ
after_of None kind at = None
after_of (Some x) kind at = if same_kind x.kind kind then Some (at + 1) else None

-- the place behind a token of this kind, if one stands there
unfoldable pub after : List DocToken → DocKind → ℕ → Option ℕ
after ts kind at = after_of (slice_get ts at) kind at

abbrev pub word_of : Option DocToken → List DocKind → Option DocToken
word_of None kinds = None
word_of (Some x) kinds = if has kinds x.kind then Some x else None

-- the token there, if it is of one of these kinds
unfoldable pub word_at : List DocToken → List DocKind → ℕ → Option DocToken
word_at ts kinds at = word_of (slice_get ts at) kinds

-- how many tokens stand before the first bracket that closes none of them, or before a comma that stops the text
abbrev pub any_size : Stop → List DocKind → List DocToken → ℕ
any_size stop stack [] = 0
any_size stop [] (t ∷ ts) =
    if is_closer t.kind || stops stop t.kind then 0 else suc (elim (closer t.kind) [ None ↦ any_size stop [] ts | Some close ↦ any_size stop (close ∷ []) ts ])
any_size stop (awaited ∷ outer) (t ∷ ts) =
    if is_closer t.kind then suc (any_size stop outer ts) else
    suc (elim (closer t.kind) [ None ↦ any_size stop (awaited ∷ outer) ts | Some close ↦ any_size stop (close ∷ awaited ∷ outer) ts ])

-- so many tokens, if brackets match in them
unfoldable pub any_at : List DocToken → Stop → ℕ → Option ℕ
any_at ts stop at = let n = any_size stop [] (drop at ts) in if nat_le (at + n) (length ts) && matches stop [] (slice_range ts at (at + n)) then Some n else None

-- ---- parts

module _ (ts : List DocToken) (below : Rule → ℕ → Read Forest) where
  -- the first alternative that is read
  abbrev pub first : List Rule → ℕ → Read Piece
  first [] at = None
  first (r ∷ rs) at = choose (below r at) (λ p. Some ((r, p.0), p.1)) (first rs at)

  abbrev pub one : Sort → ℕ → Read Piece
  one s at = first (order s) at

  -- each in turn, as many as there are, and then what stands behind them. The number bounds the turns.
  abbrev pub many : Sort → (ℕ → Read Forest) → ℕ → ℕ → Read Forest
  many s behind zero at = behind at >>= onto none
  many s behind (suc n) at = choose (one s at) (λ p. many s behind n p.1 >>= onto (standing p.0)) (behind at >>= onto none)

  abbrev pub run : List Symbol → ℕ → Read Forest
  run [] at = Some (nil, at)
  run (Mark k ∷ xs) at = after ts k at >>= λ b. run xs b >>= onto mark
  run (Word ks ∷ xs) at = word_at ts ks at >>= λ t. run xs (at + 1) >>= onto (word t)
  run (Any stop ∷ xs) at = any_at ts stop at >>= λ n. run xs (at + n) >>= onto (any n)
  run (Part One s ∷ xs) at = one s at >>= λ p. run xs p.1 >>= onto (standing p.0)
  run (Part May s ∷ xs) at = choose (one s at) (λ p. run xs p.1 >>= onto (standing p.0)) (run xs at >>= onto none)
  run (Part Many s ∷ xs) at = many s (λ b. run xs b) (length ts + 1) at

-- how deep productions nest
abbrev pub height : Forest → ℕ
height nil = 0
height (mark f) = height f
height (word t f) = height f
height (any n f) = height f
height (none f) = height f
height (some r ps f) = max (1 + height ps) (height f)
