-- What the methods of the parser give, by the reading of levels on places.
use Rattle.std.specs.Prelude.{ℕ, zero, suc, ◌+◌, ◌-◌, nat_le, if◌then◌else◌, List, [], ◌∷◌, ◌++◌, length, Option, Some, None}
use Rattle.stan_model_doc.specs.declared.token.DocToken.{DocToken}
use Rattle.stan_model_doc.specs.Symbols.{Sort, One, May, Many, Symbol, Mark, Word, Any, Part}
use Rattle.stan_model_doc.specs.Rules.{Rule, symbols}
use Rattle.stan_model_doc.specs.Trees.{Forest, nil, mark, word, any, none}
use Rattle.stan_doc_descent.specs.Parse.{Read, ◌>>=◌, Piece, onto, standing, choose, after, word_at, any_at, one}
use Rattle.stan_doc_levels.specs.Levels.{level}
use Rattle.stan_doc_trees.specs.Tree.{items, stood}

module _ (ts : List DocToken) (n : ℕ) where
  -- a part that stands, one that may, and all that stand behind one another
  unfoldable pub part : Sort → ℕ → Read Piece
  part s at = one ts (level n ts) s at

  unfoldable pub maybe : Sort → ℕ → Read (Option Piece)
  maybe s at = choose (part s at) (λ p. Some (Some p.0, p.1)) (Some (None, at))

  abbrev pub gather : ℕ → Sort → List Piece → ℕ → List Piece × ℕ
  gather zero s found at = (found, at)
  gather (suc k) s found at = choose (part s at) (λ p. gather k s (found ++ p.0 ∷ []) p.1) (found, at)

  unfoldable pub every : Sort → ℕ → Read (List Piece)
  every s at = Some (gather (length ts + 1) s [] at)

  -- symbols one after the other
  abbrev pub inside : List Symbol → ℕ → Read Forest
  inside [] at = Some (nil, at)
  inside (Mark k ∷ xs) at = after ts k at >>= λ b. inside xs b >>= onto mark
  inside (Word ks ∷ xs) at = word_at ts ks at >>= λ t. inside xs (at + 1) >>= onto (word t)
  inside (Any stop ∷ xs) at = any_at ts stop at >>= λ n. inside xs (at + n) >>= onto (any n)
  inside (Part One s ∷ xs) at = part s at >>= λ p. inside xs p.1 >>= onto (standing p.0)
  inside (Part May s ∷ xs) at = maybe s at >>= λ p. inside xs p.1 >>= onto (stood p.0)
  inside (Part Many s ∷ xs) at = every s at >>= λ p. inside xs p.1 >>= onto (items p.0)

-- how many levels are left inside a production
abbrev pub enter : ℕ → Option ℕ
enter n = if nat_le 1 n then Some (n - 1) else None

-- a production there, of so many levels
unfoldable pub whole : List DocToken → ℕ → Rule → ℕ → Read Piece
whole ts n r at = enter n >>= λ m. inside ts m (symbols r) at >>= λ p. Some ((r, p.0), p.1)

-- the first of these productions that is read
abbrev pub wholes : List DocToken → ℕ → List Rule → ℕ → Read Piece
wholes ts n [] at = None
wholes ts n (r ∷ rs) at = choose (whole ts n r at) Some (wholes ts n rs at)
